-- The number and the layer of every refusal. Assumes nothing.
use Rattle.std.specs.Prelude.{◌≡◌, ℕ, Bool, cond, List, [], ◌∷◌, ◌++◌, Some, None, Ok, Err, codes, decimal, Option, Result}
use Rattle.terms.specs.declared.Reason.{Reason}
use Rattle.terms.specs.declared.Reason.TheVariants.{BufferTooSmall, LabelTooLong, OutOfRange, UnknownPart, BadPart, TooDeep, BadFunction, UnknownFunction, MalformedCall, PositionalAfterNamed, TooManyPositional, UnknownParameter, ParameterGivenTwice, MissingParameter, LabelsFull, TypesFull, FunctionsFull, PlanFull, TooFewFreeTypes, NothingToTakeBack, NothingThere}
use Rattle.terms.specs.declared.Refusal.{Refusal}
use Rattle.terms.specs.declared.Layer.{Layer}
use Rattle.terms.specs.declared.Layer.TheVariants.{Reading, Names, State}

-- the number that a refusal is known by
abbrev pub number : Reason → ℕ
number BufferTooSmall = 1
number LabelTooLong = 11
number OutOfRange = 12
number UnknownPart = 13
number BadPart = 14
number TooDeep = 15
number BadFunction = 16
number UnknownFunction = 20
number MalformedCall = 21
number PositionalAfterNamed = 23
number TooManyPositional = 24
number UnknownParameter = 25
number ParameterGivenTwice = 26
number MissingParameter = 27
number LabelsFull = 40
number TypesFull = 41
number FunctionsFull = 42
number PlanFull = 43
number TooFewFreeTypes = 44
number NothingToTakeBack = 45
number NothingThere = 46

-- the number tells the reason: no other has it
pub record TellsReason (r : Reason) (n : ℕ) : Type 0 where
  pub value : n ≡ number r
  pub only : (q : Reason) → number q ≡ n → q ≡ r

-- the layer that refuses
abbrev pub layer : Reason → Layer
layer BufferTooSmall = Reading
layer LabelTooLong = Reading
layer OutOfRange = Reading
layer UnknownPart = Reading
layer BadPart = Reading
layer TooDeep = Reading
layer BadFunction = Reading
layer UnknownFunction = Reading
layer MalformedCall = Reading
layer PositionalAfterNamed = Names
layer TooManyPositional = Names
layer UnknownParameter = Names
layer ParameterGivenTwice = Names
layer MissingParameter = Names
layer LabelsFull = State
layer TypesFull = State
layer FunctionsFull = State
layer PlanFull = State
layer TooFewFreeTypes = State
layer NothingToTakeBack = State
layer NothingThere = State

-- the number that a layer is known by
abbrev pub layer_number : Layer → ℕ
layer_number Reading = 1
layer_number Names = 2
layer_number State = 5

-- the refusal of a reason at a place
abbrev pub refusal : Reason → ℕ → Refusal
refusal r k = record { reason = r; place = k }

-- the refusal as it is printed: its number, its layer and its place
abbrev pub refusal_text : Refusal → List ℕ
refusal_text r = codes "refused " ++ (decimal (number r.reason) ++ (codes " layer " ++ (decimal (layer_number (layer r.reason)) ++ (codes " place " ++ decimal r.place))))

-- the refusal, where there is one
abbrev pub refusal_of : {T : Type 0} → Result T Refusal → Option Refusal
refusal_of (Ok x) = None
refusal_of (Err e) = Some e

-- of reasons in their order, each with whether it is true, the first that is
abbrev pub first : List (Bool × Reason) → Option Reason
first [] = None
first (t ∷ ts) = cond t.0 (Some t.1) (first ts)

-- the refusal of a reason that is about no argument and no parameter
abbrev pub plainly : Option Reason → Option Refusal
plainly None = None
plainly (Some r) = Some (refusal r 0)
