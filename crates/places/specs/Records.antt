-- Types that only their kind makes. Assumes nothing.
use Rattle.std.specs.Prelude.{ℕ, pos}
use Rattle.places.specs.declared.record.TypeRecord.{TypeRecord}

-- the type of the number of a kind, and zeros
abbrev pub plain : ℕ → TypeRecord
plain k = record { kind = k; unit = 0; precision = 0; scale = 0; size = pos 0; label = 0; flag = 0; child = 0; second = 0 }

-- all zeros
abbrev pub blank : TypeRecord
blank = plain 0
