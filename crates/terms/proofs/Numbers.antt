-- A refusal's number tells its reason.
use Rattle.std.proofs.Common.{◌≡◌, ℕ, cond, eqb, Some, None, Option, rules}
use Rattle.terms.specs.declared.Reason.{Reason}
use Rattle.terms.specs.declared.Reason.TheVariants.{BufferTooSmall, LabelTooLong, OutOfRange, UnknownPart, BadPart, TooDeep, BadFunction, UnknownFunction, MalformedCall, PositionalAfterNamed, TooManyPositional, UnknownParameter, ParameterGivenTwice, MissingParameter, LabelsFull, TypesFull, FunctionsFull, PlanFull, TooFewFreeTypes, NothingToTakeBack, NothingThere}
use Rattle.terms.specs.Refusals.{number}

pub number-tells : (r q : Reason) → number q ≡ number r → q ≡ r
number-tells r q e = search rules

-- the reason of a number
reason_of : ℕ → Option Reason
reason_of n =
    cond (eqb n 1) (Some BufferTooSmall)
    (cond (eqb n 11) (Some LabelTooLong)
    (cond (eqb n 12) (Some OutOfRange)
    (cond (eqb n 13) (Some UnknownPart)
    (cond (eqb n 14) (Some BadPart)
    (cond (eqb n 15) (Some TooDeep)
    (cond (eqb n 16) (Some BadFunction)
    (cond (eqb n 20) (Some UnknownFunction)
    (cond (eqb n 21) (Some MalformedCall)
    (cond (eqb n 23) (Some PositionalAfterNamed)
    (cond (eqb n 24) (Some TooManyPositional)
    (cond (eqb n 25) (Some UnknownParameter)
    (cond (eqb n 26) (Some ParameterGivenTwice)
    (cond (eqb n 27) (Some MissingParameter)
    (cond (eqb n 40) (Some LabelsFull)
    (cond (eqb n 41) (Some TypesFull)
    (cond (eqb n 42) (Some FunctionsFull)
    (cond (eqb n 43) (Some PlanFull)
    (cond (eqb n 44) (Some TooFewFreeTypes)
    (cond (eqb n 45) (Some NothingToTakeBack)
    (cond (eqb n 46) (Some NothingThere) None))))))))))))))))))))

told : (r : Reason) → reason_of (number r) ≡ Some r
unfolding reason_of
told r = search rules
