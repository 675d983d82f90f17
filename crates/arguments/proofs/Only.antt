-- The subject's words leave one outcome.
use Rattle.std.proofs.Common.{◌≡◌, ℕ, cond, eqb, ◌⊎◌, List, Ok, Err, Option, refl, ap, subst, inl, inr, arith}
use Rattle.std.proofs.lemmas.Bool.Decides.{nat_tests}
use Rattle.terms.proofs.Numbers.{number-tells}
use Rattle.terms.specs.Refusals.{number}
use Rattle.terms.specs.declared.Reason.{Reason}
use Rattle.terms.specs.declared.Reason.TheVariants.{UnknownParameter, ParameterGivenTwice}
use Rattle.terms.specs.declared.Refusal.{Refusal}
use Rattle.arguments.specs.declared.written.Argument.{Argument}
use Rattle.arguments.specs.declared.written.ArgumentName.{ArgumentName}
use Rattle.arguments.specs.Orders.{Reordered}
use Rattle.arguments.specs.Places.{Outcome}
use Rattle.arguments.specs.Standing.{Says, rank, Leads, FirstTrue, Exactly}
use Rattle.arguments.specs.Standing.Says.{unknown, twice}
use Rattle.arguments.proofs.Orderly.{same_answer}

-- two refusals that lead each other have one rank and one place
level : (r q : Reason) (p k : ℕ) → Leads r p q k → Leads q k r p → (rank q ≡ rank r) × (k ≡ p)
level r q p k (inl a) (inl b) = absurd (omega arith)
level r q p k (inl a) (inr b) = absurd (omega (arith, b.0))
level r q p k (inr a) (inl b) = absurd (omega (arith, a.0))
level r q p k (inr a) (inr b) = (b.0, omega (arith, a.1, b.1))

-- of one rank, two numbers are equal, or they are 25 and 26
ranks : (m n : ℕ) → cond (eqb m 26) 25 m ≡ cond (eqb n 26) 25 n → (m ≡ n) ⊎ (((m ≡ 25) × (n ≡ 26)) ⊎ ((m ≡ 26) × (n ≡ 25)))
ranks m n e = grind (arith, nat_tests)

module _ (params : List (List ℕ)) (text : List ℕ) (args : List Argument) (names : List (Option ArgumentName)) where
  -- of one argument 25 and 26 are not both true
  not_both : (p : ℕ) → Says params text args names UnknownParameter p → Says params text args names ParameterGivenTwice p → ⊥
  not_both p (unknown a l h) (twice b j k m g q) = h k q

  same_reason : (r q : Reason) (p : ℕ) → Says params text args names r p → Says params text args names q p → rank q ≡ rank r → q ≡ r
  same_reason r q p a b e = elim (ranks (number q) (number r) e) [
    | inl d ↦ number-tells r q d
    | inr (inl d) ↦ absurd (not_both p (subst (λ (x : Reason). Says params text args names x p) (number-tells UnknownParameter q d.0) b) (subst (λ (x : Reason). Says params text args names x p) (number-tells ParameterGivenTwice r d.1) a))
    | inr (inr d) ↦ absurd (not_both p (subst (λ (x : Reason). Says params text args names x p) (number-tells UnknownParameter r d.1) a) (subst (λ (x : Reason). Says params text args names x p) (number-tells ParameterGivenTwice q d.0) b))
  ]

  same_refusal : (e f : Refusal) → FirstTrue params text args names e → FirstTrue params text args names f → f ≡ e
  same_refusal e f a b =
      let l = level e.reason f.reason e.place f.place (a.leads f.reason f.place b.so) (b.leads e.reason e.place a.so) in
      let r = same_reason e.reason f.reason e.place a.so (subst (λ (k : ℕ). Says params text args names f.reason k) l.1 b.so) l.0 in
      λ i. record { reason = r i; place = l.1 i }

  -- every argument where it was
  unmoved : Reordered args names args names
  unmoved = record {
    as_many = refl;
    as_many_names = refl;
    to = λ i. i;
    from = λ i. i;
    to_within = λ i l. l;
    from_within = λ i l. l;
    back = λ i l. refl;
    forth = λ i l. refl;
    still = λ i l e. refl;
    name = λ i l. refl;
    argument = λ i l. refl;
  }

  pub only : (o q : Outcome) → Exactly params text args names o → Exactly params text args names q → q ≡ o
  only (Ok xs) (Ok ys) h g = ap Ok (same_answer params text unmoved ys xs g.0 h.0)
  only (Ok xs) (Err e) h g = absurd (h.1 e.reason e.place g.so)
  only (Err e) (Ok ys) h g = absurd (g.1 e.reason e.place h.so)
  only (Err e) (Err f) h g = ap Err (same_refusal e f h g)
