-- Each text is cut into tokens or has a first fault.
use Rattle.std.proofs.Common.{◌≡◌, ℕ, zero, suc, ◌+◌, ◌^◌, ◌<◌, ◌≤◌, Bool, true, false, cond, ◌&&◌, ℤ, pos, ◌*ℤ◌, ◌<ℤ◌, List, [], ◌∷◌, ◌++◌, length, Option, Some, None, take, drop, get_or, negsuc, unsigned_abs, int_div, refl, sym, ap, subst, ◌∙◌, ◌⊎◌, inl, inr, arith}
use Rattle.std.specs.Prelude.{Ok, Err, nat_eq}
use Rattle.std.proofs.lemmas.Int.{ints, unsigned_abs-mul}
use Rattle.std.proofs.lemmas.Bool.{eqb-true, and_parts, false≢true}
use Rattle.std.proofs.lemmas.List.{length-append, length-drop}
use Rattle.std.proofs.Math.Nat.{one-le-pow, le-mul_of_pos_right}
use Rattle.emp_num.specs.Exact.{IsNarrow}
use Rattle.emp_num.specs.FracSpec.{IsQuotient}
use Rattle.emp_num.specs.Gcd.{gcd_of}
use Rattle.emp_num.specs.declared.frac.Frac.{Frac}
use Rattle.emp_numeral.specs.declared.numeral.NumeralFault.TheVariants.{Wide}
use Rattle.emp_numeral.specs.Numeral.{numeral_form, top_of, bottom_of, FormedSmall, FormedLarge, DecimalGives, FormGives, NumeralGives}
use Rattle.emp_num.specs.Whole.{whole}
use Rattle.emp_algebra.proofs.Ring.{lit, var, ◌⊗◌, by_ring}
use Rattle.emp_num.proofs.Divisors.{IsGcd-gcd_of}
use Rattle.emp_num.proofs.Gcds.{quot_exact, divisor_pos, coprime_from_gcd, positive_from_product, cross}
use Rattle.emp_ast.specs.declared.tree.Place.{Place}
use Rattle.emp_lex.specs.declared.token.Token.{Token}
use Rattle.emp_lex.specs.declared.token.TokenKind.{TokenKind}
use Rattle.emp_lex.specs.declared.token.TokenKind.TheVariants.{Name, Numeral, Text, Relation, Symbol}
use Rattle.emp_lex.specs.declared.fault.LexFault.{LexFault}
use Rattle.emp_lex.specs.declared.fault.LexFault.TheVariants.{Number}
use Rattle.emp_lex.specs.declared.piece.Step.{Step}
use Rattle.emp_lex.specs.declared.piece.Step.TheVariants.{Skip, Take, Stop}
use Rattle.emp_lex.specs.declared.scan.Class.TheVariants.{Line}
use Rattle.emp_lex.specs.Bytes.{run_size}
use Rattle.emp_lex.specs.DollarLines.{directive, ends_block, behind, block_size}
use Rattle.emp_lex.specs.Forms.{HasForm}
use Rattle.emp_lex.specs.Pieces.{step}
use Rattle.emp_lex.specs.Passed.{IsFirstLine, IsPassed, a_blank, a_comment, a_listed_line, a_block}
use Rattle.emp_lex.specs.Tokens.{past, start, is_line_start, fault_at, token_at, IsTooWide, Reads, at_end, skipped, taken, stopped, too_wide, IsTokenList, IsFirstFault}
use Rattle.emp_lex.proofs.NumeralForms.{run_is}
use Rattle.emp_lex.proofs.TokenForms.{step_formed, formed_bytes}
use Rattle.emp_lex.proofs.Wides.{value_not_wide}
use Rattle.emp_lex.proofs.Longest.{form_some, step_passed}

-- ---- numerals
pub record HasFraction (n d : ℤ) : Type 0 where
  pub fraction : Frac
  pub is : IsQuotient fraction n d

narrow_part : (q g n : ℤ) → q *ℤ g ≡ n → pos 0 <ℤ g → IsNarrow n → IsNarrow q
narrow_part q g n e p w =
    let above : 0 < unsigned_abs g = omega (arith, ints) in
    let l = le-mul_of_pos_right (unsigned_abs q) above in
    omega (arith, l, unsigned_abs-mul q g, ap unsigned_abs e)

pub the_fraction : (n d : ℤ) → IsNarrow n → IsNarrow d → pos 0 <ℤ d → HasFraction n d
the_fraction n d wn wd p =
    let g : ℕ = gcd_of (unsigned_abs n) (unsigned_abs d) in
    let h = IsGcd-gcd_of (unsigned_abs n) (unsigned_abs d) in
    let above : pos 0 <ℤ pos g = divisor_pos d g h.1 p in
    let num : ℤ = int_div n (pos g) in
    let den : ℤ = int_div d (pos g) in
    let top : num *ℤ pos g ≡ n = quot_exact n (pos g) h.0 in
    let bottom : den *ℤ pos g ≡ d = quot_exact d (pos g) h.1 in
    let positive : pos 0 <ℤ den = positive_from_product den (pos g) d bottom above p in
    let num_narrow : IsNarrow num = narrow_part num (pos g) n top above wn in
    let den_narrow : IsNarrow den = narrow_part den (pos g) d bottom above wd in
    record {
      fraction = record { num = num; den = den; positive = positive; num_narrow = num_narrow; den_narrow = den_narrow; lowest = coprime_from_gcd n d num den (pos g) h above top bottom };
      is = cross num den n d (pos g) top bottom;
    }

split : (n b : ℕ) → (n < b) ⊎ (b ≤ n)
split n b = grind arith

zero_or_more : (n : ℕ) → (n ≡ 0) ⊎ (0 < n)
zero_or_more n = grind arith

bottom_above : (s : ℤ) → pos 0 <ℤ pos (bottom_of s)
bottom_above (pos n) = omega (arith, ints)
bottom_above (negsuc n) = let h = one-le-pow (suc n) 10 (omega arith) in omega (arith, ints, h)

top_of_zero : (s : ℤ) → top_of 0 s ≡ 0
top_of_zero (pos n) = omega arith
top_of_zero (negsuc n) = refl

small_or_large : (m : ℕ) (s : ℤ) → FormedSmall m s ⊎ FormedLarge m s
small_or_large m s = go (split m (2 ^ 126)) (split (top_of m s) (2 ^ 126)) (split (bottom_of s) (2 ^ 126))
  where
    go : (m < 2 ^ 126) ⊎ (2 ^ 126 ≤ m) → (top_of m s < 2 ^ 126) ⊎ (2 ^ 126 ≤ top_of m s) → (bottom_of s < 2 ^ 126) ⊎ (2 ^ 126 ≤ bottom_of s) → FormedSmall m s ⊎ FormedLarge m s
    go (inr h) b c = inr (inl h)
    go (inl h) (inr k) c = inr (inr (inl k))
    go (inl h) (inl k) (inr l) = inr (inr (inr l))
    go (inl h) (inl k) (inl l) = inl (h, k, l)

-- 0, however small the power of ten
zero_fraction : (b : ℕ) → HasFraction (pos 0) (pos b)
zero_fraction b = record { fraction = whole 0; is = by_ring (pos b ∷ []) (lit (pos 0) ⊗ var 0) (lit (pos 0) ⊗ lit (pos 1)) refl }

decimal_exists : (m : ℕ) (s : ℤ) → ((f : Frac) × DecimalGives m s (Ok f)) ⊎ DecimalGives m s (Err Wide)
decimal_exists m s = go (zero_or_more m) (small_or_large m s)
  where
    go : (m ≡ 0) ⊎ (0 < m) → FormedSmall m s ⊎ FormedLarge m s → ((f : Frac) × DecimalGives m s (Ok f)) ⊎ DecimalGives m s (Err Wide)
    go (inl z) b =
        let e : top_of m s ≡ 0 = ap (λ k. top_of k s) z ∙ top_of_zero s in
        let f = zero_fraction (bottom_of s) in
        inl (f.fraction, (subst (λ k. IsQuotient f.fraction (pos k) (pos (bottom_of s))) (sym e) f.is, inl z))
    go (inr l) (inl h) = let f = the_fraction (pos (top_of m s)) (pos (bottom_of s)) h.1 h.2 (bottom_above s) in inl (f.fraction, (f.is, inr h))
    go (inr l) (inr h) = inr (l, h)

form_exists : (t : Bool) (m : ℕ) (s : ℤ) → t ≡ true → ((f : Frac) × FormGives t m s (Ok f)) ⊎ FormGives t m s (Err Wide)
form_exists true m s e = decimal_exists m s
form_exists false m s e = absurd (false≢true e)

-- a numeral has a value or is too wide
pub numeral_exists : (bs : List ℕ) → numeral_form bs ≡ true → ((f : Frac) × NumeralGives bs (Ok f)) ⊎ NumeralGives bs (Err Wide)
numeral_exists bs h = form_exists (numeral_form bs) _ _ h

wide_or_not : (kind : TokenKind) (bs : List ℕ) → HasForm kind bs → IsTooWide kind bs ⊎ (IsTooWide kind bs → ⊥)
wide_or_not Name bs h = inr (λ w. w)
wide_or_not Numeral bs h = go (numeral_exists bs h)
  where
    go : ((f : Frac) × NumeralGives bs (Ok f)) ⊎ NumeralGives bs (Err Wide) → NumeralGives bs (Err Wide) ⊎ (NumeralGives bs (Err Wide) → ⊥)
    go (inl (f, k)) = inr (λ w. value_not_wide bs f k w)
    go (inr w) = inl w
wide_or_not Text bs h = inr (λ w. w)
wide_or_not Relation bs h = inr (λ w. w)
wide_or_not Symbol bs h = inr (λ w. w)

-- ---- steps go on
line_fits : (n : ℕ) (text : List ℕ) → 0 < length text → (get_or text 0 0 ≡ 10 → ⊥) → IsFirstLine n text → (0 < n) × (n ≤ length text)
line_fits n text l other f = (go f.line f.is f.size, omega (arith, f.size, ap length f.is, length-append f.line f.rest))
  where
    go : (line : List ℕ) → text ≡ line ++ f.rest → n ≡ length line → 0 < n
    go (b ∷ bs) i s = omega arith
    go [] i s = absurd (stops f.ends)
      where
        stops : (f.rest ≡ []) ⊎ (get_or f.rest 0 0 ≡ 10) → ⊥
        stops (inl e) = let k : length text ≡ 0 = ap length (i ∙ e) in absurd (omega arith)
        stops (inr e) = other (ap (λ x. get_or x 0 0) i ∙ e)

run_within : (text : List ℕ) → run_size Line text ≤ length text
run_within text = let q = run_is Line text in omega (arith, q.size, ap length q.is, length-append q.run q.rest)

run_at_dollar : (b : ℕ) (bs : List ℕ) → b ≡ 36 → 0 < run_size Line (b ∷ bs)
run_at_dollar b bs e = rw e (omega arith)

inside : (m n : ℕ) → Some m ≡ Some n → m ≡ n
inside m n e = cc

block_fits : (begins : Bool) (text : List ℕ) (n : ℕ) → block_size begins text ≡ Some n → (0 < n) × (n ≤ length text)
block_fits begins [] n e = let f : ◌≡◌ {A = Option ℕ} None (Some n) = e in cc
block_fits begins (b ∷ bs) n e = go (begins && nat_eq b 36 && ends_block (directive (b ∷ bs))) refl e (λ m. block_fits (nat_eq b 10) bs m)
  where
    onward : (o : Option ℕ) → block_size (nat_eq b 10) bs ≡ o → behind 1 o ≡ Some n → ((m : ℕ) → block_size (nat_eq b 10) bs ≡ Some m → (0 < m) × (m ≤ length bs)) → (0 < n) × (n ≤ length (b ∷ bs))
    onward None q f more = let g : ◌≡◌ {A = Option ℕ} None (Some n) = f in cc
    onward (Some m) q f more = let h = more m q in (omega (arith, inside (1 + m) n f), omega (arith, h.1, inside (1 + m) n f))

    go : (t : Bool) → (begins && nat_eq b 36 && ends_block (directive (b ∷ bs))) ≡ t → cond t (Some (run_size Line (b ∷ bs))) (behind 1 (block_size (nat_eq b 10) bs)) ≡ Some n → ((m : ℕ) → block_size (nat_eq b 10) bs ≡ Some m → (0 < m) × (m ≤ length bs)) → (0 < n) × (n ≤ length (b ∷ bs))
    go true q f more =
        let d : b ≡ 36 = eqb-true b 36 (and_parts begins (nat_eq b 36) (and_parts (begins && nat_eq b 36) (ends_block (directive (b ∷ bs))) q).0).1 in
        (omega (arith, run_at_dollar b bs d, inside (run_size Line (b ∷ bs)) n f), omega (arith, run_within (b ∷ bs), inside (run_size Line (b ∷ bs)) n f))
    go false q f more = onward (block_size (nat_eq b 10) bs) refl f more

not_end : (b c : ℕ) → b ≡ c → (c ≡ 10 → ⊥) → b ≡ 10 → ⊥
not_end b c e other h = other (sym e ∙ h)

passed_fits : (begins : Bool) (text : List ℕ) (n : ℕ) → 0 < length text → IsPassed begins text n → (0 < n) × (n ≤ length text)
passed_fits begins text n l (a_blank h) = (omega arith, omega arith)
passed_fits begins text n l (a_comment k b h f) = line_fits k text l (not_end (get_or text 0 0) 42 h (λ e. omega (arith, e))) f
passed_fits begins text n l (a_listed_line k b h d f) = line_fits k text l (not_end (get_or text 0 0) 36 h (λ e. omega (arith, e))) f
passed_fits begins text n l (a_block k b h d f) = block_fits true text k f

taken_fits : (begins : Bool) (text : List ℕ) (kind : TokenKind) (n : ℕ) → 0 < length text → step begins text ≡ Take kind n → (0 < n) × (n ≤ length text)
taken_fits begins text kind n l e =
    let f = step_formed begins text kind n l e in
    (omega (arith, f.size, form_some kind f.part f.form), omega (arith, f.size, ap length f.is, length-append f.part f.rest))

-- ---- texts
record HasReading (at : ℕ) (p : Place) (text : List ℕ) : Type 0 where
  tokens : List Token
  end : Option LexFault
  reads : Reads at p text tokens end

shorter : (n fuel : ℕ) (text : List ℕ) → length text ≤ suc fuel → (0 < n) × (n ≤ length text) → length (drop n text) ≤ fuel
shorter n fuel text l h = omega (arith, length-drop n text, h.0, h.1)

reading : (fuel at : ℕ) (p : Place) (text : List ℕ) → length text ≤ fuel → HasReading at p text
reading fuel at p [] l = record { tokens = []; end = None; reads = at_end at p }
reading zero at p (b ∷ bs) l = absurd (omega arith)
reading (suc fuel) at p (b ∷ bs) l =
    go (step (is_line_start p) (b ∷ bs)) refl (λ n h. reading fuel (at + n) (past p (take n (b ∷ bs))) (drop n (b ∷ bs)) (shorter n fuel (b ∷ bs) l h))
  where
    some : 0 < length (b ∷ bs)
    some = omega arith

    take_one : (kind : TokenKind) (n : ℕ) → step (is_line_start p) (b ∷ bs) ≡ Take kind n → IsTooWide kind (take n (b ∷ bs)) ⊎ (IsTooWide kind (take n (b ∷ bs)) → ⊥) → HasReading (at + n) (past p (take n (b ∷ bs))) (drop n (b ∷ bs)) → HasReading at p (b ∷ bs)
    take_one kind n e (inl w) r = record { tokens = []; end = Some (Number p); reads = too_wide at p b bs kind n e w }
    take_one kind n e (inr w) r = record { tokens = token_at kind at n p ∷ r.tokens; end = r.end; reads = taken at p b bs kind n r.tokens r.end e w r.reads }

    go : (s : Step) → step (is_line_start p) (b ∷ bs) ≡ s → ((n : ℕ) → (0 < n) × (n ≤ length (b ∷ bs)) → HasReading (at + n) (past p (take n (b ∷ bs))) (drop n (b ∷ bs))) → HasReading at p (b ∷ bs)
    go (Skip n) e more =
        let r = more n (passed_fits (is_line_start p) (b ∷ bs) n some (step_passed (b ∷ bs) n (is_line_start p) e)) in
        record { tokens = r.tokens; end = r.end; reads = skipped at p b bs n r.tokens r.end e r.reads }
    go (Take kind n) e more =
        take_one kind n e (wide_or_not kind (take n (b ∷ bs)) (formed_bytes (b ∷ bs) kind n (step_formed (is_line_start p) (b ∷ bs) kind n some e))) (more n (taken_fits (is_line_start p) (b ∷ bs) kind n some e))
    go (Stop defect) e more = record { tokens = []; end = Some (fault_at defect p); reads = stopped at p b bs defect e }

pub list_or_fault : (text : List ℕ) → ((ts : List Token) × IsTokenList text ts) ⊎ ((f : LexFault) × IsFirstFault text f)
list_or_fault text = let r = reading (length text) 0 start text (omega arith) in go r.tokens r.end r.reads
  where
    go : (ts : List Token) (end : Option LexFault) → Reads 0 start text ts end → ((ts : List Token) × IsTokenList text ts) ⊎ ((f : LexFault) × IsFirstFault text f)
    go ts None h = inl (ts, h)
    go ts (Some f) h = inr (f, (ts, h))
