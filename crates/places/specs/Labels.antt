-- What labels are written with. Assumes nothing.
use Rattle.std.specs.Prelude.{ℕ, cond, List, length, Ok, Err, codes, Result, nat_lt}
use Rattle.terms.specs.Limits.{longest_label}
use Rattle.terms.specs.Refusals.{refusal}
use Rattle.terms.specs.declared.Reason.TheVariants.{LabelTooLong}
use Rattle.terms.specs.declared.Refusal.{Refusal}
use Rattle.places.specs.declared.label.Label.{Label}

-- the bytes of a label
abbrev pub spelled : Label → List ℕ
spelled l = l.bytes

-- the bytes of the label that was made, or the refusal
abbrev pub written : Result Label Refusal → Result (List ℕ) Refusal
written (Ok l) = Ok (spelled l)
written (Err e) = Err e

-- a text as a label: itself, or 11 where it has too many bytes
abbrev pub labelled : List ℕ → Result (List ℕ) Refusal
labelled text = cond (nat_lt longest_label (length text)) (Err (refusal LabelTooLong 0)) (Ok text)

-- the label of what a list is made of: item
abbrev pub item : List ℕ
item = codes "item"

-- the time zone that stands for any other: +TZ
abbrev pub zone_wildcard : List ℕ
zone_wildcard = codes "+TZ"

-- the time zone of no offset: +00
abbrev pub utc : List ℕ
utc = codes "+00"
