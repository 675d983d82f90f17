-- The limits, each under one name. Assumes nothing.
use Rattle.std.specs.Prelude.{ℕ}

-- the most arguments that a call has
abbrev pub most_arguments : ℕ
most_arguments = 16

-- the most parameters that a function has
abbrev pub most_parameters : ℕ
most_parameters = 16

-- the most bytes that a label has
abbrev pub longest_label : ℕ
longest_label = 64

-- the most bytes that a signature has
abbrev pub longest_signature : ℕ
longest_signature = 1024

-- the most levels that a type has
abbrev pub deepest_type : ℕ
deepest_type = 8

-- how many labels are there from the start
abbrev pub first_labels : ℕ
first_labels = 3

-- the fewest places for labels that a memory has
abbrev pub least_labels : ℕ
least_labels = 16

-- the most places for labels that are used
abbrev pub most_labels : ℕ
most_labels = 1024

-- the fewest places for types
abbrev pub least_types : ℕ
least_types = 256

-- the most places for types that are used
abbrev pub most_types : ℕ
most_types = 4096

-- the fewest places for functions
abbrev pub least_functions : ℕ
least_functions = 1

-- the most places for functions that are used
abbrev pub most_functions : ℕ
most_functions = 256

-- the fewest places for plan entries
abbrev pub least_entries : ℕ
least_entries = 1

-- the most places for plan entries that are used
abbrev pub most_entries : ℕ
most_entries = 4096

-- how many types a call or a fold may add
abbrev pub room_for_call : ℕ
room_for_call = 256

-- the largest precision of a decimal
abbrev pub most_precision : ℕ
most_precision = 38

-- the largest unit of a Timestamp: nanosecond
abbrev pub last_timestamp_unit : ℕ
last_timestamp_unit = 3

-- the largest unit of an Interval: MonthDayNano
abbrev pub last_interval_unit : ℕ
last_interval_unit = 2
