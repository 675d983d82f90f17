-- What the parts of a call stand for. Assumes nothing.
use Rattle.std.specs.Prelude.{ℕ, List, Option}
use Rattle.arguments.specs.declared.by_name.Spelling.{Spelling}
use Rattle.arguments.specs.declared.call.Call.{Call}
use Rattle.arguments.specs.Names.{Name}
use Rattle.arguments.specs.View.{bytes_of, spell}

-- the names of the parameters
abbrev pub params : Call → List (List ℕ)
params call = bytes_of call.param_names.now

-- the names of the arguments, as the text spells them
abbrev pub names : Call → List (Option Name)
names call = spell call.text.now call.arg_names.now

-- the name that is spelled
abbrev pub name_of : Spelling → Name
name_of s = record { bytes = s.bytes.now; quoted = s.is_quoted }
