-- Labels of the same bytes are the same.
use Rattle.std.proofs.Common.{◌≡◌, ℕ, ◌≤◌, Bool, List, length, Decides, sym, ap, ◌∙◌}
use mathlib.Core.HLevel.{is_prop→PathP}
use Rattle.std.specs.Coded.{le_prop}
use Rattle.terms.specs.Limits.{longest_label}
use Rattle.places.specs.declared.label.Label.{Label}
use Rattle.places.specs.Labels.{spelled}

-- a label has no more bytes than a label may have
pub spelled-short : (l : Label) → length (spelled l) ≤ longest_label
spelled-short l = l.short

-- the bytes tell the label
pub label-tells : (a b : Label) → spelled a ≡ spelled b → a ≡ b
label-tells a b e =
    λ i. record { bytes = e i; short = is_prop→PathP (λ j. length (e j) ≤ longest_label) (λ j. le_prop) a.short b.short i }

-- whether the bytes are the same decides whether the labels are
pub labels-decide : (a b : Label) (xs ys : List ℕ) (r : Bool) → xs ≡ spelled a → ys ≡ spelled b → Decides r (xs ≡ ys) → Decides r (a ≡ b)
labels-decide a b xs ys r p q h = (λ t. label-tells a b (sym p ∙ h.0 t ∙ q), λ e. h.1 (p ∙ ap spelled e ∙ sym q))
