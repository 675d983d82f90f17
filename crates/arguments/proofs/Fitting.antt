-- A name's first matching parameter, and the place of an argument, in the subject's words.
use Rattle.std.proofs.Common.{◌≡◌, ℕ, Bool, true, false, cond, List, [], map, length, get_or, Some, None, Decides, MatchBool, Option, sym, ap}
use Rattle.std.proofs.lemmas.Slice.Eq.{bytes_eq-Decides}
use Rattle.std.proofs.lemmas.Bool.{both_ways, false_from_ne_true}
use Rattle.std.specs.Char.{to_ascii_lowercase}
use Rattle.std.specs.Str.{bytes_eq}
use Rattle.arguments.specs.Names.{Name, matches, first_match}
use Rattle.arguments.specs.Places.{goes}
use Rattle.arguments.specs.Standing.{Fits, FirstFit, Belongs}
use Rattle.arguments.proofs.Firsts.{below_some, below_hit}

-- the code's test of a name is the subject's
pub fits-decides : (n : Name) (p : List ℕ) → Decides (matches n p) (Fits n p)
fits-decides n p = go n.quoted
  where
    go : (q : Bool) → Decides (cond q (bytes_eq n.bytes p) (bytes_eq (map to_ascii_lowercase n.bytes) (map to_ascii_lowercase p))) (MatchBool q (n.bytes ≡ p) (map to_ascii_lowercase n.bytes ≡ map to_ascii_lowercase p))
    go true = bytes_eq-Decides n.bytes p
    go false = bytes_eq-Decides (map to_ascii_lowercase n.bytes) (map to_ascii_lowercase p)

misfit : (n : Name) (p : List ℕ) → (Fits n p → ⊥) → matches n p ≡ false
misfit n p h = false_from_ne_true (matches n p) (λ e. h ((fits-decides n p).0 e))

module _ (params : List (List ℕ)) (n : Name) where
  abbrev fitting : ℕ → Bool
  fitting k = matches n (get_or params k [])

  match_fits : (k : ℕ) → first_match n params ≡ Some k → FirstFit params n k
  match_fits k e =
      let s = below_some fitting (length params) k e in record {
        there = s.0;
        fits = (fits-decides n (get_or params k [])).0 s.1;
        before = λ j l h. both_ways (fitting j) (s.2 j l) ((fits-decides n (get_or params j [])).1 h);
      }

  fits_match : (k : ℕ) → FirstFit params n k → first_match n params ≡ Some k
  fits_match k h = below_hit fitting (length params) k h.there (λ j l. misfit n (get_or params j []) (h.before j l)) ((fits-decides n (get_or params k [])).1 h.fits)

pub goes-belongs : (params : List (List ℕ)) (i k : ℕ) (o : Option Name) → goes params i o ≡ Some k → Belongs params i o k
goes-belongs params i k None e = cc
goes-belongs params i k (Some n) e = match_fits params n k e

pub belongs_goes : (params : List (List ℕ)) (i k : ℕ) (o : Option Name) → Belongs params i o k → goes params i o ≡ Some k
belongs_goes params i k None e = ap Some (sym e)
belongs_goes params i k (Some n) h = fits_match params n k h
