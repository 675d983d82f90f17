-- What is printed reads back.
use Rattle.std.proofs.Common.{◌≡◌, ℕ, suc, ◌+◌, ◌*◌, ◌/◌, ◌%◌, ◌<◌, Bool, true, false, cond, not, ◌||◌, eqb, List, [], ◌∷◌, ◌++◌, length, get_or, drop, IfOk, Some, Option, Result, sym, refl, ap, ◌∙◌, subst, inl, inr, arith}
use Rattle.std.proofs.lemmas.List.{append-nil, append_assoc, drop_at}
use Rattle.std.proofs.lemmas.Result.{IfOk-weaker}
use Rattle.std.proofs.lemmas.Bool.{and_parts, both_ways, cases_eq, cases_Bool, cond-true, cond-false, ne_eqb}
use Rattle.std.proofs.lemmas.Bool.Decides.{nat_tests}
use Rattle.std.specs.Option.{option_map}
use Rattle.std.specs.Char.{is_ascii_digit}
use Rattle.std.specs.Int.{is_in_range}
use Rattle.std.specs.List.{flat_map}
use Rattle.script.specs.Tokens.{Tok, word, quoted, State, nothing, in_word, in_quote, in_escape, in_high, in_low, class, goes_on, hex_value, at, begins, step, and_then, run, finish, lex}
use Rattle.printing.specs.Printing.{word_byte, word_bytes, is_word, hex_digit, hexed, escaped, quoted_text, label_text}
use Rattle.printing.specs.Reading.{label_token, ReadsBack, Reads}

-- the machine, one byte on
run_step : (s t : State) (b : ℕ) (rest : List ℕ) → step s b ≡ Some t → run s (b ∷ rest) ≡ run t rest
unfolding run
run_step s t b rest e = ap (λ (o : Option State). and_then o (λ u. run u rest)) e

run_none : (s : State) → run s [] ≡ Some s
unfolding run
run_none s = refl

-- a hexadecimal digit is read as its value
hex_back : (v : ℕ) → v < 16 → hex_value (hex_digit v) ≡ Some v
hex_back v l = grind (arith, nat_tests)

module _ (ts : List Tok) where
  hex_step : (w rest : List ℕ) (b : ℕ) → b < 256 → run (at ts (in_quote w)) (hexed b ++ rest) ≡ run (at ts (in_quote (w ++ b ∷ []))) rest
  hex_step w rest b l =
      let high = b / 16 in
      let low = b % 16 in
      let back : high * 16 + low ≡ b = omega arith in
      run_step (at ts (in_quote w)) (at ts (in_escape w)) 92 (120 ∷ hex_digit high ∷ hex_digit low ∷ rest) refl
      ∙ run_step (at ts (in_escape w)) (at ts (in_high w)) 120 (hex_digit high ∷ hex_digit low ∷ rest) refl
      ∙ run_step (at ts (in_high w)) (at ts (in_low w high)) (hex_digit high) (hex_digit low ∷ rest) (ap (option_map (λ h. at ts (in_low w h))) (hex_back high (omega arith)))
      ∙ run_step (at ts (in_low w high)) (at ts (in_quote (w ++ (high * 16 + low) ∷ []))) (hex_digit low) rest (ap (option_map (λ k. at ts (in_quote (w ++ (high * 16 + k) ∷ [])))) (hex_back low (omega arith)))
      ∙ ap (λ (n : ℕ). run (at ts (in_quote (w ++ n ∷ []))) rest) back

  plain_step : (w rest : List ℕ) (b : ℕ) → eqb b 34 ≡ false → eqb b 92 ≡ false → run (at ts (in_quote w)) (b ∷ rest) ≡ run (at ts (in_quote (w ++ b ∷ []))) rest
  plain_step w rest b p q = run_step (at ts (in_quote w)) (at ts (in_quote (w ++ b ∷ []))) b rest (cond-false (eqb b 34) _ _ p ∙ cond-false (eqb b 92) _ _ q)

  -- one byte in quotes
  byte_step : (w rest : List ℕ) (b : ℕ) → b < 256 → run (at ts (in_quote w)) (escaped b ++ rest) ≡ run (at ts (in_quote (w ++ b ∷ []))) rest
  unfolding run
  byte_step w rest b l = elim (cases_eq b 34) [
    | inl e ↦ subst (λ (x : ℕ). run (at ts (in_quote w)) (escaped x ++ rest) ≡ run (at ts (in_quote (w ++ x ∷ []))) rest) (sym e) refl
    | inr n ↦ elim (cases_eq b 92) [
      | inl e ↦ subst (λ (x : ℕ). run (at ts (in_quote w)) (escaped x ++ rest) ≡ run (at ts (in_quote (w ++ x ∷ []))) rest) (sym e) refl
      | inr m ↦
          let p = ne_eqb b 34 n in
          let q = ne_eqb b 92 m in
          let other : escaped b ≡ cond (is_in_range 32 126 b) (b ∷ []) (hexed b) = cond-false (eqb b 34) _ _ p ∙ cond-false (eqb b 92) _ _ q in
          elim (cases_Bool (is_in_range 32 126 b)) [
            | inl t ↦ ap (λ (x : List ℕ). run (at ts (in_quote w)) (x ++ rest)) (other ∙ cond-true (is_in_range 32 126 b) (b ∷ []) (hexed b) t) ∙ plain_step w rest b p q
            | inr t ↦ ap (λ (x : List ℕ). run (at ts (in_quote w)) (x ++ rest)) (other ∙ cond-false (is_in_range 32 126 b) (b ∷ []) (hexed b) t) ∙ hex_step w rest b l
          ]
    ]
  ]

  bytes_run : (w label rest : List ℕ) → ((i : ℕ) → get_or label i 0 < 256) → run (at ts (in_quote w)) (flat_map escaped label ++ rest) ≡ run (at ts (in_quote (w ++ label))) rest
  bytes_run w [] rest h = ap (λ (x : List ℕ). run (at ts (in_quote x)) rest) (sym (append-nil w))
  bytes_run w (b ∷ bs) rest h =
      ap (run (at ts (in_quote w))) (append_assoc (escaped b) (flat_map escaped bs) rest)
      ∙ byte_step w (flat_map escaped bs ++ rest) b (h 0)
      ∙ bytes_run (w ++ b ∷ []) bs rest (λ i. h (suc i))
      ∙ ap (λ (x : List ℕ). run (at ts (in_quote x)) rest) (append_assoc w (b ∷ []) bs)

pub quoted-back : (label : List ℕ) → ((i : ℕ) → get_or label i 0 < 256) → ReadsBack (quoted_text label) (quoted label)
quoted-back label h =
    ap (λ (o : Option State). and_then o finish)
    (run_step (at [] nothing) (at [] (in_quote [])) 34 (flat_map escaped label ++ 34 ∷ []) refl
    ∙ bytes_run [] [] label (34 ∷ []) h
    ∙ run_step (at [] (in_quote label)) (at (quoted label ∷ []) nothing) 34 [] refl
    ∙ run_none (at (quoted label ∷ []) nothing))

-- a byte of a word goes on with it, and begins it unless it is a digit
module _ {K : Type 0} (letter digit other : K) where
  abbrev kind : Bool → Bool → Bool → Bool → K
  kind x y z u = cond (y || z) letter (cond x digit (cond u letter other))

  goes_on_by_class : (on : K → Bool) → on letter ≡ true → on digit ≡ true → (x y z u : Bool) → (((x || y) || z) || u) ≡ true → on (kind x y z u) ≡ true
  goes_on_by_class on l d x true z u e = l
  goes_on_by_class on l d x false true u e = l
  goes_on_by_class on l d true false false u e = d
  goes_on_by_class on l d false false false true e = l
  goes_on_by_class on l d false false false false e = absurd (both_ways false refl e)

  begins_word : (x y z u : Bool) → not x ≡ true → (((x || y) || z) || u) ≡ true → kind x y z u ≡ letter
  begins_word x true z u n e = refl
  begins_word x false true u n e = refl
  begins_word true false false u n e = absurd (both_ways false refl n)
  begins_word false false false true n e = refl
  begins_word false false false false n e = absurd (both_ways false refl e)

word-run : (w label : List ℕ) → word_bytes label ≡ true → run (at [] (in_word w)) label ≡ Some (at [] (in_word (w ++ label)))
unfolding word_bytes
word-run w [] h = run_none (at [] (in_word w)) ∙ ap (λ (x : List ℕ). Some (at [] (in_word x))) (sym (append-nil w))
word-run w (b ∷ bs) h =
    let p = and_parts (word_byte b) (word_bytes bs) h in
    run_step (at [] (in_word w)) (at [] (in_word (w ++ b ∷ []))) b bs (cond-true (goes_on (class b)) _ _ (goes_on_by_class (class 97) (class 48) _ goes_on refl refl (is_in_range 48 57 b) (is_in_range 65 90 b) (is_in_range 97 122 b) (eqb b 95) p.0))
    ∙ word-run (w ++ b ∷ []) bs p.1
    ∙ ap (λ (x : List ℕ). Some (at [] (in_word x))) (append_assoc w (b ∷ []) bs)

word_back : (label : List ℕ) → is_word label ≡ true → lex label ≡ Some (word label ∷ [])
unfolding word_bytes
word_back [] h = absurd (both_ways false refl h)
word_back (b ∷ bs) h =
    let p = and_parts (not (is_ascii_digit b)) (word_bytes (b ∷ bs)) h in
    let q = and_parts (word_byte b) (word_bytes bs) p.1 in
    ap (λ (o : Option State). and_then o finish)
    (run_step (at [] nothing) (at [] (in_word (b ∷ []))) b bs (ap (begins [] b) (begins_word (class 97) (class 48) _ (is_in_range 48 57 b) (is_in_range 65 90 b) (is_in_range 97 122 b) (eqb b 95) p.0 q.0))
    ∙ word-run (b ∷ []) bs q.1)

pub label-back : (label : List ℕ) → ((i : ℕ) → get_or label i 0 < 256) → ReadsBack (label_text label) (label_token label)
label-back label h = go (is_word label) refl
  where
    go : (x : Bool) → is_word label ≡ x → lex (cond x label (quoted_text label)) ≡ Some (cond x (word label) (quoted label) ∷ [])
    go true e = word_back label e
    go false e = quoted-back label h

-- the same of what a text gains
gained : (before text after : List ℕ) (t : Tok) → ReadsBack text t → after ≡ before ++ text → Reads before after t
gained before text after t h e = ap lex (ap (drop (length before)) e ∙ drop_at before text (length before) refl) ∙ h

module _ {X Y : Type 0} (r : Result X Y) (label before after : List ℕ) (bytes : (i : ℕ) → get_or label i 0 < 256) where
  pub quoted_reads : IfOk r (λ _. after ≡ before ++ quoted_text label) → IfOk r (λ _. Reads before after (quoted label))
  quoted_reads = IfOk-weaker r (λ _. after ≡ before ++ quoted_text label) (λ _. Reads before after (quoted label)) (λ _ e. gained before (quoted_text label) after (quoted label) (quoted-back label bytes) e)

  pub label_reads : IfOk r (λ _. after ≡ before ++ label_text label) → IfOk r (λ _. Reads before after (label_token label))
  label_reads = IfOk-weaker r (λ _. after ≡ before ++ label_text label) (λ _. Reads before after (label_token label)) (λ _ e. gained before (label_text label) after (label_token label) (label-back label bytes) e)
