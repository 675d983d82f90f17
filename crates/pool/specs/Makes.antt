-- What a new memory holds. Assumes nothing.
use Rattle.std.specs.Prelude.{◌≡◌, ℕ, min, Bool, not, ◌&&◌, [], ◌∷◌, Option, nat_le}
use Rattle.terms.specs.declared.Reason.{Reason}
use Rattle.terms.specs.declared.Reason.TheVariants.{BufferTooSmall}
use Rattle.terms.specs.Refusals.{first}
use Rattle.terms.specs.Limits.{first_labels, least_labels, least_types, least_functions, least_entries, most_labels, most_types, most_functions, most_entries}
use Rattle.pool.specs.declared.store.Counts.{Counts}
use Rattle.pool.specs.declared.store.Memory.{Memory}
use Rattle.pool.specs.Facts.{initial_labels}
use Rattle.pool.specs.Held.{State, Rooms, seen, rooms_of}
use Rattle.pool.specs.Laws.{Well}

-- so many places for labels, types, functions and entries are enough
abbrev pub enough : ℕ → ℕ → ℕ → ℕ → Bool
enough l t f e = ((nat_le least_labels l && nat_le least_types t) && nat_le least_functions f) && nat_le least_entries e

-- a buffer is below its least
abbrev pub why_small : ℕ → ℕ → ℕ → ℕ → Option Reason
why_small l t f e = first ((not (enough l t f e), BufferTooSmall) ∷ [])

-- the counts of a memory that is new
abbrev pub new_counts : Counts
new_counts = record { labels = first_labels; types = 0; functions = 0; entries = 0 }

-- the three labels, and nothing else
abbrev pub new_state : State
new_state = record { labels = initial_labels; types = []; functions = []; entries = [] }

-- so many places, up to the most
abbrev pub given : ℕ → ℕ → ℕ → ℕ → Rooms
given l t f e = record { labels = min l most_labels; types = min t most_types; functions = min f most_functions; entries = min e most_entries }

-- a new memory over so many places
pub record New (l t f e : ℕ) (m : Memory) : Type 0 where
  pub state : seen m new_counts ≡ new_state
  pub rooms : rooms_of m ≡ given l t f e
  pub well : Well m new_counts
