-- What holds of the lent slices up to their heights. Assumes nothing.
use Rattle.std.specs.Prelude.{◌≡◌, ℕ, ◌<◌, ◌≤◌, List, [], ◌∷◌, map, take, slice_index}
use Rattle.terms.specs.Limits.{first_labels}
use Rattle.places.specs.declared.label.Label.{Label}
use Rattle.places.specs.declared.stamped.Stamped.{Stamped}
use Rattle.places.specs.Labels.{spelled, item, zone_wildcard, utc}
use Rattle.pool.specs.declared.store.Counts.{Counts}

-- the labels that are there from the start
abbrev pub initial_labels : List (List ℕ)
initial_labels = item ∷ (zone_wildcard ∷ (utc ∷ []))

-- where there are labels at all, these come first
abbrev pub Begun : List Label → ℕ → Type 0
Begun ls n = first_labels ≤ n → map spelled (take first_labels ls) ≡ initial_labels

-- how many types were live when the place i was written
abbrev pub stamp_at : {T : Type 0} → List (Stamped T) → ℕ → ℕ
stamp_at xs i = slice_index (map (λ x. x.types) xs) i

-- the stamps of the first n places do not fall
abbrev pub Rising : {T : Type 0} → List (Stamped T) → ℕ → Type 0
Rising xs n = (i j : ℕ) → (i < j) × (j < n) → stamp_at xs i ≤ stamp_at xs j

-- the counts with so many types
abbrev pub back : Counts → ℕ → Counts
back c n = record c { types = n }
