-- Lines of nodes.
use Rattle.std.proofs.Common.{◌≡◌, ℕ, ◌^◌, ◌<◌, ◌≤◌, Bool, true, false, nat_eq, ℤ, pos, ◌<ℤ◌, List, [], ◌∷◌, ◌++◌, map, length, drop, decimal, codes, arith, refl, sym, ap, subst, ◌∙◌, append_assoc, eqb-true, All}
use Rattle.std.specs.Prelude.{Result, Ok, Err, IfOk, IfErr}
use Rattle.std.specs.Bool.{Decides}
use Rattle.std.specs.Fmt.{signed_decimal}
use Rattle.std.proofs.lemmas.Bool.{true≢false, eqb-false}
use Rattle.std.proofs.lemmas.Int.{ints, to_z-of_z}
use Rattle.std.proofs.lemmas.List.{append_cancel_left}
use Rattle.std.proofs.lemmas.List.Elements.{All-nil, All-cons}
use Rattle.emp_algebra.specs.Vector.{cell}
use Rattle.emp_num.specs.Exact.{IsNarrow}
use Rattle.emp_numeral.specs.Numeral.{first}
use Rattle.emp_rows.specs.Points.{IsNumber}
use Rattle.emp_cert.specs.Certs.{NodeFits}
use Rattle.emp_cert.specs.declared.tree.Node.{Node}
use Rattle.emp_cert.specs.declared.tree.Node.TheVariants.{Branch, Farkas, Bound}
use Rattle.emp_cert_text.specs.Text.{spaced, factors, node_text}
use Rattle.emp_cert_text.specs.Words.{whole, first_word, after_word}
use Rattle.emp_cert_text.specs.Lines.{AreWords, IsWhole, FactorsRight, LineFails, NumbersGive, FactorsGive, NodeRight, NodeLineFits}
use Rattle.emp_cert_text.specs.Lines.NodeRight.{branch, farkas, bound}
use Rattle.emp_cert_text.specs.declared.lines.LineFault.{LineFault}
use Rattle.emp_cert_text.specs.declared.lines.LineFault.TheVariants.{Range, Syntax, NoMemory}
use Rattle.emp_cert_text.proofs.Numbers.{signed_is, whole_text}
use Rattle.emp_cert_text.proofs.Spaced.{plain_whole, first_plain, after_plain, words_first, space_parts}
use Rattle.emp_cert_text.proofs.Factors.{factors_first, factors_written}
use Rattle.emp_cert_text.proofs.Heads.{numbers_right, numbers_same, rest_first, narrow_pos, one_cell}

-- ---- weights
pub no_weight : (w : List ℕ) (z : ℤ) → z ≡ whole w → z <ℤ pos 1 → IsWhole w → IsNarrow (whole w) → pos 0 <ℤ whole w → ⊥
no_weight w z e l h n p = absurd (omega (arith, ints, e, l, p))

pub ruleset weighing = (to_z-of_z)

-- ---- branches
branch_only : (second : Bool) (q : ℕ) (t : List ℕ) → NodeRight second q (codes "branch" ++ t) → AreWords IsWhole 1 t
branch_only second q t (branch u e h) = subst (λ (x : List ℕ). AreWords IsWhole 1 x) (append_cancel_left (codes "branch") u t (sym e)) h
branch_only second q t (farkas u e h) = absurd (omega (arith, ap first e))
branch_only second q t (bound w u e h g) = absurd (omega (arith, ap (λ x. first (drop 1 x)) e))

branch_fit : (second : Bool) (p q : ℕ) (t : List ℕ) (n : Node) → NodeFits p q n → codes "branch" ++ t ≡ node_text second n → (k : ℕ) × IsNumber p k × (t ≡ spaced (map signed_decimal (pos k ∷ [])) ++ 10 ∷ [])
branch_fit second p q t (Branch k) f e = (k, f, append_cancel_left (codes "branch") t (spaced (decimal k ∷ []) ++ 10 ∷ []) e)
branch_fit second p q t (Farkas fs) f e = absurd (omega (arith, ap first e))
branch_fit second p q t (Bound w fs) f e = absurd (omega (arith, ap (λ x. first (drop 1 x)) e))

pub narrow_one : (k p : ℕ) → p < 2 ^ 126 → IsNumber p k → All IsNarrow (pos k ∷ [])
narrow_one k p l h = All-cons IsNarrow (pos k) [] (narrow_pos k (omega (arith, h.1, l))) (All-nil IsNarrow)

pub branch_ok : (t : List ℕ) (zs : List ℤ) (k p : ℕ) (second : Bool) (q : ℕ) → NumbersGive t 1 (Ok zs) → cell zs 0 ≡ pos k → 1 ≤ k → k ≤ p → (codes "branch" ++ t ≡ node_text second (Branch k)) × NodeFits p q (Branch k)
branch_ok t zs k p second q h e l m = (ap (λ x. codes "branch" ++ x) (h.0 ∙ ap (λ x. spaced (map signed_decimal x) ++ 10 ∷ []) (one_cell zs h.1 ∙ ap (λ z. z ∷ []) e)), (omega (arith, l), m))

pub branch_fault : (t : List ℕ) (p : ℕ) (e : LineFault) (second : Bool) (q : ℕ) → p < 2 ^ 126 → NumbersGive t 1 (Err e) → LineFails (NodeRight second q (codes "branch" ++ t)) (NodeLineFits second p q (codes "branch" ++ t)) e
branch_fault t p Range second q l h = (branch t refl h.0, λ f. let g = branch_fit second p q t f.0 f.1 f.2 in h.1 (pos g.0 ∷ [], narrow_one g.0 p l g.1, g.2))
branch_fault t p Syntax second q l h = λ r. h (branch_only second q t r)
branch_fault t p NoMemory second q l h = tt

pub branch_range : (t : List ℕ) (zs : List ℤ) (p : ℕ) (second : Bool) (q : ℕ) → p < 2 ^ 126 → NumbersGive t 1 (Ok zs) → ((k : ℕ) → 1 ≤ k → k ≤ p → cell zs 0 ≡ pos k → ⊥) → LineFails (NodeRight second q (codes "branch" ++ t)) (NodeLineFits second p q (codes "branch" ++ t)) Range
branch_range t zs p second q l h n = (
  branch t refl (numbers_right 1 t zs h.0 h.1 h.2),
  λ f. let g = branch_fit second p q t f.0 f.1 f.2 in n g.0 (omega (arith, g.1.0)) g.1.1 (ap (λ x. cell x 0) (numbers_same zs (pos g.0 ∷ []) h.2 (narrow_one g.0 p l g.1) (sym h.0 ∙ g.2))),
)

-- ---- leaves that refute
farkas_only : (second : Bool) (q : ℕ) (t : List ℕ) → NodeRight second q (codes "farkas" ++ t) → FactorsRight second q t
farkas_only second q t (branch u e h) = absurd (omega (arith, ap first e))
farkas_only second q t (farkas u e h) = subst (λ (x : List ℕ). FactorsRight second q x) (append_cancel_left (codes "farkas") u t (sym e)) h
farkas_only second q t (bound w u e h g) = absurd (omega (arith, ap first e))

farkas_fit : (second : Bool) (p q : ℕ) (t : List ℕ) (n : Node) → NodeFits p q n → codes "farkas" ++ t ≡ node_text second n → (fs : List ℤ) × (length fs ≡ q) × All IsNarrow fs × (t ≡ spaced (factors second fs) ++ 10 ∷ [])
farkas_fit second p q t (Branch k) f e = absurd (omega (arith, ap first e))
farkas_fit second p q t (Farkas fs) f e = (fs, f.0, f.1, append_cancel_left (codes "farkas") t (spaced (factors second fs) ++ 10 ∷ []) e)
farkas_fit second p q t (Bound w fs) f e = absurd (omega (arith, ap first e))

pub farkas_ok : (t : List ℕ) (fs : List ℤ) (second : Bool) (q p : ℕ) → FactorsGive second t q (Ok fs) → (codes "farkas" ++ t ≡ node_text second (Farkas fs)) × NodeFits p q (Farkas fs)
farkas_ok t fs second q p h = (ap (λ x. codes "farkas" ++ x) h.0, (h.1, h.2))

pub farkas_fault : (t : List ℕ) (e : LineFault) (second : Bool) (q p : ℕ) → FactorsGive second t q (Err e) → LineFails (NodeRight second q (codes "farkas" ++ t)) (NodeLineFits second p q (codes "farkas" ++ t)) e
farkas_fault t Range second q p h = (farkas t refl h.0, λ f. h.1 (farkas_fit second p q t f.0 f.1 f.2))
farkas_fault t Syntax second q p h = λ r. h (farkas_only second q t r)
farkas_fault t NoMemory second q p h = tt

-- ---- leaves that bound
factors_right_first : (second : Bool) (q : ℕ) (t : List ℕ) → FactorsRight second q t → first t ≤ 32
factors_right_first false q t h = words_first IsWhole q t h
factors_right_first true q t h = factors_first h.0 _ t h.1

record BoundParts (second : Bool) (q : ℕ) (t : List ℕ) : Type 0 where
  space : first t ≡ 32
  weight : IsWhole (first_word (drop 1 t))
  rest : FactorsRight second q (after_word (drop 1 t))

bound_only : (second : Bool) (q : ℕ) (t : List ℕ) → NodeRight second q (codes "bound" ++ t) → BoundParts second q t
bound_only second q t (branch u e h) = absurd (omega (arith, ap (λ x. first (drop 1 x)) e))
bound_only second q t (farkas u e h) = absurd (omega (arith, ap first e))
bound_only second q t (bound w u e h g) =
    let s : t ≡ 32 ∷ (w ++ u) = append_cancel_left (codes "bound") t (32 ∷ (w ++ u)) e in
    let l = factors_right_first second q u g in
    record {
      space = ap first s;
      weight = subst (λ (x : List ℕ). IsWhole x) (sym (ap (λ x. first_word (drop 1 x)) s ∙ first_plain w u (plain_whole w h) l)) h;
      rest = subst (λ (x : List ℕ). FactorsRight second q x) (sym (ap (λ x. after_word (drop 1 x)) s ∙ after_plain w u (plain_whole w h) l)) g;
    }

bound_right : (second : Bool) (q : ℕ) (t : List ℕ) → BoundParts second q t → NodeRight second q (codes "bound" ++ t)
bound_right second q t b = bound (first_word (drop 1 t)) (after_word (drop 1 t)) (ap (λ x. codes "bound" ++ x) (space_parts t b.space)) b.weight b.rest

record BoundFit (second : Bool) (q : ℕ) (t : List ℕ) : Type 0 where
  weight : ℤ
  above : pos 0 <ℤ weight
  narrow : IsNarrow weight
  word : first_word (drop 1 t) ≡ signed_decimal weight
  fs : List ℤ
  rest : (length fs ≡ q) × All IsNarrow fs × (after_word (drop 1 t) ≡ spaced (factors second fs) ++ 10 ∷ [])

bound_fit : (second : Bool) (p q : ℕ) (t : List ℕ) (n : Node) → NodeFits p q n → codes "bound" ++ t ≡ node_text second n → BoundFit second q t
bound_fit second p q t (Branch k) f e = absurd (omega (arith, ap (λ x. first (drop 1 x)) e))
bound_fit second p q t (Farkas fs) f e = absurd (omega (arith, ap first e))
bound_fit second p q t (Bound w fs) f e =
    let u : List ℕ = spaced (factors second fs) ++ 10 ∷ [] in
    let s : t ≡ 32 ∷ (signed_decimal w ++ u) = append_cancel_left (codes "bound") t (spaced (signed_decimal w ∷ factors second fs) ++ 10 ∷ []) e ∙ ap (λ x. 32 ∷ x) (append_assoc (signed_decimal w) (spaced (factors second fs)) (10 ∷ [])) in
    let pw = plain_whole (signed_decimal w) (signed_is w f.1).0 in
    let l = rest_first (factors second fs) in
    record {
      weight = w;
      above = f.0;
      narrow = f.1;
      word = ap (λ x. first_word (drop 1 x)) s ∙ first_plain (signed_decimal w) u pw l;
      fs = fs;
      rest = (f.2, f.3, ap (λ x. after_word (drop 1 x)) s ∙ after_plain (signed_decimal w) u pw l);
    }

pub bound_no_space : (t : List ℕ) (second : Bool) (q : ℕ) → nat_eq (first t) 32 ≡ false → NodeRight second q (codes "bound" ++ t) → ⊥
bound_no_space t second q e r = eqb-false (first t) 32 e (bound_only second q t r).space

pub bound_no_word : (t w : List ℕ) (second : Bool) (q : ℕ) (b : Bool) → w ≡ first_word (drop 1 t) → Decides b (IsWhole w) → b ≡ false → NodeRight second q (codes "bound" ++ t) → ⊥
bound_no_word t w second q b e d n r = true≢false (sym (d.1 (subst (λ (x : List ℕ). IsWhole x) (sym e) (bound_only second q t r).weight)) ∙ n)

pub bound_fault : (t w u : List ℕ) (e : LineFault) (second : Bool) (q p : ℕ) (b : Bool) → nat_eq (first t) 32 ≡ true → w ≡ first_word (drop 1 t) → u ≡ after_word (drop 1 t) → Decides b (IsWhole w) → b ≡ true → FactorsGive second u q (Err e) → LineFails (NodeRight second q (codes "bound" ++ t)) (NodeLineFits second p q (codes "bound" ++ t)) e
bound_fault t w u Range second q p b s f g d y h = (
  bound_right second q t (record { space = eqb-true (first t) 32 s; weight = subst (λ (x : List ℕ). IsWhole x) f (d.0 y); rest = subst (λ (x : List ℕ). FactorsRight second q x) g h.0 }),
  λ k. let m = bound_fit second p q t k.0 k.1 k.2 in h.1 (m.fs, m.rest.0, m.rest.1, g ∙ m.rest.2),
)
bound_fault t w u Syntax second q p b s f g d y h = λ r. h (subst (λ (x : List ℕ). FactorsRight second q x) (sym g) (bound_only second q t r).rest)
bound_fault t w u NoMemory second q p b s f g d y h = tt

pub bound_range : (t w u : List ℕ) (fs : List ℤ) (second : Bool) (q p : ℕ) (b : Bool) → q < 2 ^ 64 → nat_eq (first t) 32 ≡ true → w ≡ first_word (drop 1 t) → u ≡ after_word (drop 1 t) → Decides b (IsWhole w) → b ≡ true → FactorsGive second u q (Ok fs) → (IsWhole w → IsNarrow (whole w) → pos 0 <ℤ whole w → ⊥) → LineFails (NodeRight second q (codes "bound" ++ t)) (NodeLineFits second p q (codes "bound" ++ t)) Range
bound_range t w u fs second q p b few s f g d y h n = (
  bound_right second q t (record { space = eqb-true (first t) 32 s; weight = subst (λ (x : List ℕ). IsWhole x) f (d.0 y); rest = subst (λ (x : List ℕ). FactorsRight second q x) g (factors_written second q u fs h.0 h.1 few h.2) }),
  λ k. let m = bound_fit second p q t k.0 k.1 k.2 in
      let v : whole w ≡ m.weight = ap whole (f ∙ m.word) ∙ (signed_is m.weight m.narrow).1 in
      n (d.0 y) (subst (λ (z : ℤ). IsNarrow z) (sym v) m.narrow) (subst (λ (z : ℤ). pos 0 <ℤ z) (sym v) m.above),
)

pub bound_ok : (t w u : List ℕ) (z : ℤ) (fs : List ℤ) (second : Bool) (q p : ℕ) → nat_eq (first t) 32 ≡ true → w ≡ first_word (drop 1 t) → u ≡ after_word (drop 1 t) → FactorsGive second u q (Ok fs) → IsWhole w → z ≡ whole w → IsNarrow z → pos 0 <ℤ z → (codes "bound" ++ t ≡ node_text second (Bound z fs)) × NodeFits p q (Bound z fs)
bound_ok t w u z fs second q p s f g h a b c d =
    let k : w ≡ signed_decimal z = whole_text w z a b c in
    let r : List ℕ = spaced (factors second fs) ++ 10 ∷ [] in (
      ap (λ x. codes "bound" ++ x) (space_parts t (eqb-true (first t) 32 s) ∙ (ap (λ x. 32 ∷ (x ++ after_word (drop 1 t))) (sym f ∙ k) ∙ (ap (λ x. 32 ∷ (signed_decimal z ++ x)) (sym g ∙ h.0) ∙ ap (λ x. 32 ∷ x) (sym (append_assoc (signed_decimal z) (spaced (factors second fs)) (10 ∷ [])))))),
      (d, c, h.1, h.2),
    )

-- ---- no node
pub no_node : (l : List ℕ) (second : Bool) (q : ℕ) → ((t : List ℕ) → l ≡ codes "branch" ++ t → ⊥) → ((t : List ℕ) → l ≡ codes "farkas" ++ t → ⊥) → ((t : List ℕ) → l ≡ codes "bound" ++ t → ⊥) → NodeRight second q l → ⊥
no_node l second q a b c (branch t e h) = a t e
no_node l second q a b c (farkas t e h) = b t e
no_node l second q a b c (bound w t e h g) = c (32 ∷ (w ++ t)) e

pub line_fails_at : (second : Bool) (p q : ℕ) (l m : List ℕ) (e : LineFault) → l ≡ m → LineFails (NodeRight second q m) (NodeLineFits second p q m) e → LineFails (NodeRight second q l) (NodeLineFits second p q l) e
line_fails_at second p q l m e f h = subst (λ (x : List ℕ). LineFails (NodeRight second q x) (NodeLineFits second p q x) e) (sym f) h

pub ok_text : (l m : List ℕ) (second : Bool) (p q : ℕ) (r : Result Node LineFault) → l ≡ m → IfOk r (λ n. (m ≡ node_text second n) × NodeFits p q n) → IfOk r (λ n. l ≡ node_text second n)
ok_text l m second p q (Ok n) e h = e ∙ h.0
ok_text l m second p q (Err f) e h = tt

pub ok_fits : (l m : List ℕ) (second : Bool) (p q : ℕ) (r : Result Node LineFault) → l ≡ m → IfOk r (λ n. (m ≡ node_text second n) × NodeFits p q n) → IfOk r (NodeFits p q)
ok_fits l m second p q (Ok n) e h = h.1
ok_fits l m second p q (Err f) e h = tt

pub err_at : (l m : List ℕ) (second : Bool) (p q : ℕ) (r : Result Node LineFault) → l ≡ m → IfErr r (LineFails (NodeRight second q m) (NodeLineFits second p q m)) → IfErr r (LineFails (NodeRight second q l) (NodeLineFits second p q l))
err_at l m second p q (Ok n) e h = tt
err_at l m second p q (Err f) e h = line_fails_at second p q l m f e h

pub ruleset nodes = (to_z-of_z, branch_ok, branch_fault, branch_range, farkas_ok, farkas_fault, bound_no_space, bound_no_word, bound_fault, bound_range, bound_ok, no_node, line_fails_at)
