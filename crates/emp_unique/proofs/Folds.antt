-- The test of a problem's agents has one answer: the fold of a smaller matrix ends where that of a larger one ends.
use Rattle.std.proofs.Common.{◌≡◌, ◌≢◌, ◌⊎◌, inl, inr, ℕ, zero, suc, ◌+◌, ◌<◌, ◌≤◌, pos, ◌*ℤ◌, ◌≤ℤ◌, ◌<ℤ◌, Bool, true, false, List, length, take, Some, Result, Ok, Err, arith, refl, sym, ap, subst, ◌∙◌}
use Rattle.std.specs.Prelude.{slice_get}
use Rattle.std.specs.List.{All}
use Rattle.std.proofs.lemmas.Bool.{cases_order}
use Rattle.std.proofs.lemmas.List.{get_or-take, length-take-le}
use Rattle.std.proofs.lemmas.Option.{same_Some, slice_get_within, get_or_from_slice_get}
use Rattle.emp_num.specs.Ratio.{Ratio}
use Rattle.emp_num.specs.declared.frac.Frac.{Frac}
use Rattle.emp_num.proofs.FracOrder.{one_value}
use Rattle.emp_ldl.specs.Form.{of_frac, entry, entries}
use Rattle.emp_ldl.specs.Fold.{lowered, residual, result_at}
use Rattle.emp_ldl.specs.Steps.{Is, StepAt, StepPasses, CellPasses, CellIsWide}
use Rattle.emp_ldl.specs.Curve.{RowPasses, Before, ColumnFails, RowIsNot, RowIsWide}
use Rattle.emp_ldl.specs.Convex.{ConvexGives, SameEnd}
use Rattle.emp_ldl.specs.declared.squares.Curve.{Curve}
use Rattle.emp_ldl.specs.declared.squares.Curve.TheVariants.{Not, Wide, NoMemory}
use Rattle.emp_ldl.proofs.OneEnd.{one_end}
use Rattle.emp_ast.specs.declared.tree.VarId.{VarId}
use Rattle.emp_poly.specs.declared.quad.Quad.{Quad}
use Rattle.emp_problem.specs.declared.problem.Purpose.{Purpose}
use Rattle.emp_problem.specs.declared.problem.Purpose.TheVariants.{Goal, Flow}
use Rattle.emp_problem.specs.declared.problem.BlockPart.{BlockPart}
use Rattle.emp_problem.specs.declared.problem.AgentProblem.{AgentProblem}
use Rattle.emp_share.specs.declared.share.ShareFault.{ShareFault}
use Rattle.emp_share.specs.declared.share.ShareFault.TheVariants as ShareWords
use Rattle.emp_share.specs.Share.{variable_at, product_at, IsSecondBy, AreSeconds, FoldPasses, FoldEnds, DoubleEnds, GoalGives, PurposeGives, BlockGives, BlockPasses, BlockEnds}
use Rattle.emp_unique.specs.Laws.{OneTest}

-- ---- matrices that agree in their first n rows and columns
abbrev Agree : (ℕ → ℕ → Ratio) → (ℕ → ℕ → Ratio) → ℕ → Type 0
Agree m o n = (i j : ℕ) → i < n → j < n → m i j ≡ o i j

lowered_same : (r x y d s u v e : Ratio) → r ≡ s → x ≡ u → y ≡ v → d ≡ e → lowered r x y d ≡ lowered s u v e
lowered_same r x y d s u v e p q f g = rw (p, q, f, g) refl

module _ (m o : ℕ → ℕ → Ratio) (n : ℕ) (agree : Agree m o n) where
  residual_same : (i k j : ℕ) → i ≤ n → k < n → j < n → residual m i k j ≡ residual o i k j
  residual_same zero k j l hk hj = agree k j hk hj
  residual_same (suc i) k j l hk hj =
      let hi : i < n = omega arith in
      let li : i ≤ n = omega arith in
      lowered_same (residual m i k j) (residual m i k i) (residual m i j i) (residual m i i i) (residual o i k j) (residual o i k i) (residual o i j i) (residual o i i i) (residual_same i k j li hk hj) (residual_same i k i li hk hi) (residual_same i j i li hj hi) (residual_same i i i li hi hi)

  result_same : (k j : ℕ) → k < n → j < n → result_at m k j ≡ result_at o k j
  result_same k j hk hj = residual_same j k j (omega arith) hk hj

  at_on : (i k j : ℕ) (r x y d : Frac) → i < n → k < n → j < n → StepAt m i k j r x y d → StepAt o i k j r x y d
  at_on i k j r x y d hi hk hj a = record {
    own = subst (λ (p : Ratio). Is r p) (residual_same i k j (omega arith) hk hj) a.own;
    left = subst (λ (p : Ratio). Is x p) (result_same k i hk hi) a.left;
    right = subst (λ (p : Ratio). Is y p) (result_same j i hj hi) a.right;
    pivot = subst (λ (p : Ratio). Is d p) (result_same i i hi hi) a.pivot;
  }

  step_on : (i k j : ℕ) → i < n → k < n → j < n → StepPasses m i k j → StepPasses o i k j
  step_on i k j hi hk hj p = record { r = p.r; x = p.x; y = p.y; d = p.d; at = at_on i k j p.r p.x p.y p.d hi hk hj p.at; s = p.s; gives = p.gives }

  cell_on : (k j : ℕ) → k < n → j ≤ k → CellPasses m k j → CellPasses o k j
  cell_on k j hk hj p = λ i l. step_on i k j (omega arith) hk (omega arith) (p i l)

  wide_cell_on : (k j : ℕ) → k < n → j ≤ k → CellIsWide m k j → CellIsWide o k j
  wide_cell_on k j hk hj w =
      let l = w.below in
      let s = w.wide in
      record {
        at = w.at;
        below = l;
        passes = λ i b. step_on i k j (omega arith) hk (omega arith) (w.passes i b);
        wide = record { r = s.r; x = s.x; y = s.y; d = s.d; at = at_on w.at k j s.r s.x s.y s.d (omega arith) hk (omega arith) s.at; wide = s.wide };
      }

  top_zero : (k j : ℕ) → k < n → j < n → (result_at m k j).top ≡ pos 0 → (result_at o k j).top ≡ pos 0
  top_zero k j hk hj e = ap (λ (p : Ratio). p.top) (sym (result_same k j hk hj)) ∙ e

  zero_top : (k j : ℕ) → k < n → j < n → (result_at o k j).top ≡ pos 0 → (result_at m k j).top ≡ pos 0
  zero_top k j hk hj e = ap (λ (p : Ratio). p.top) (result_same k j hk hj) ∙ e

  row_on : (k : ℕ) → k < n → RowPasses m k → RowPasses o k
  row_on k hk p = record {
    cells = λ j l. cell_on k j hk l (p.cells j l);
    goes = record {
      pivot = subst (λ (r : Ratio). pos 0 ≤ℤ r.top) (result_same k k hk hk) p.goes.pivot;
      zeros = λ j l e. top_zero k j hk (omega arith) (p.goes.zeros j l (zero_top j j (omega arith) (omega arith) e));
    };
  }

  before_on : (k j : ℕ) → k < n → j ≤ k → Before m k j → Before o k j
  before_on k j hk hj b = record {
    passes = λ i l. cell_on k i hk (omega arith) (b.passes i l);
    fits = λ i l e. top_zero k i hk (omega arith) (b.fits i l (zero_top i i (omega arith) (omega arith) e));
  }

  fails_on : (k j : ℕ) → k < n → j ≤ k → ColumnFails m k j → ColumnFails o k j
  fails_on k j hk hj (inl c) = inl (c.0, subst (λ (r : Ratio). r.top <ℤ pos 0) (result_same k k hk hk) c.1)
  fails_on k j hk hj (inr c) = inr (c.0, top_zero j j (omega arith) (omega arith) c.1, λ e. c.2 (zero_top k j hk (omega arith) e))

  not_on : (k : ℕ) → k < n → RowIsNot m k → RowIsNot o k
  not_on k hk r = record {
    at = r.at;
    within = r.within;
    before = before_on k r.at hk r.within r.before;
    own = cell_on k r.at hk r.within r.own;
    fails = fails_on k r.at hk r.within r.fails;
  }

  wide_on : (k : ℕ) → k < n → RowIsWide m k → RowIsWide o k
  wide_on k hk r = record { at = r.at; within = r.within; before = before_on k r.at hk r.within r.before; wide = wide_cell_on k r.at hk r.within r.wide }

  -- the fold of the first n rows ends where that of more rows ends
  end_on : (side : ℕ) (c : Curve) → n ≤ side → ConvexGives m n (Err c) → ConvexGives o side (Err c)
  end_on side (Not k) l e =
      let b = e.below in
      record { row = e.row; is = e.is; below = omega arith; before = λ h s. row_on h (omega arith) (e.before h s); own = not_on e.row b e.own }
  end_on side (Wide k) l e =
      let b = e.below in
      record { row = e.row; is = e.is; below = omega arith; before = λ h s. row_on h (omega arith) (e.before h s); own = wide_on e.row b e.own }
  end_on side NoMemory l e = tt

-- ---- the matrices of one polynomial
one_second : (b : Bool) (c f g : Frac) → IsSecondBy b c f → IsSecondBy b c g → f ≡ g
one_second true c f g h k = one_value (pos 2 *ℤ c.num) c.den f g c.positive h k
one_second false c f g h k = h ∙ sym k

module _ (q : Quad) (vs : List VarId) where
  seconds_agree : (n side : ℕ) (cs ds : List Frac) → n ≤ side → AreSeconds q vs n cs → AreSeconds q vs side ds → Agree (entries n cs) (entries side ds) n
  seconds_agree n side cs ds l s t = λ i j hi hj. ap of_frac (one_second _ (product_at q (variable_at vs i) (variable_at vs j)) (entry n cs i j) (entry side ds i j) (s.each i j hi hj) (t.each i j (omega arith) (omega arith)))

  end_up : (n side : ℕ) (cs ds : List Frac) (c : Curve) → n ≤ side → AreSeconds q vs n cs → AreSeconds q vs side ds → ConvexGives (entries n cs) n (Err c) → ConvexGives (entries side ds) side (Err c)
  end_up n side cs ds c l s t e = end_on (entries n cs) (entries side ds) n (seconds_agree n side cs ds l s t) side c l e

  -- what passes does not end
  pass_end : (side : ℕ) (c : Curve) → c ≢ NoMemory → FoldPasses q vs side → (e : FoldEnds q vs c) → e.side ≤ side → ⊥
  pass_end side c named p e l =
      apart c named
      (one_end side p.gives.cells p.gives.seconds.matrix (Ok p.squares) (Err c) p.gives.gives (end_up e.side side e.gives.cells p.gives.cells c l e.gives.seconds p.gives.seconds e.gives.gives))
    where
      apart : (c : Curve) → c ≢ NoMemory → SameEnd (Ok p.squares) (Err c) → ⊥
      apart (Not k) named s = s
      apart (Wide k) named s = s
      apart NoMemory named s = named refl

  curves_same : (c e : Curve) → c ≢ NoMemory → e ≢ NoMemory → SameEnd (Err c) (Err e) → c ≡ e
  curves_same (Not k) (Not h) n o s = ap Not s
  curves_same (Not k) (Wide h) n o s = absurd s
  curves_same (Wide k) (Not h) n o s = absurd s
  curves_same (Wide k) (Wide h) n o s = ap Wide s
  curves_same (Not k) NoMemory n o s = absurd (o refl)
  curves_same (Wide k) NoMemory n o s = absurd (o refl)
  curves_same NoMemory e n o s = absurd (n refl)

  fold_same : (c d : Curve) → c ≢ NoMemory → d ≢ NoMemory → FoldEnds q vs c → FoldEnds q vs d → c ≡ d
  fold_same c d n o e f = go (either e.side f.side)
    where
      either : (i j : ℕ) → (i ≤ j) ⊎ (j ≤ i)
      either i j = grind arith

      go : (e.side ≤ f.side) ⊎ (f.side ≤ e.side) → c ≡ d
      go (inl l) =
          curves_same c d n o
          (one_end f.side f.gives.cells f.gives.seconds.matrix (Err c) (Err d) (end_up e.side f.side e.gives.cells f.gives.cells c l e.gives.seconds f.gives.seconds e.gives.gives) f.gives.gives)
      go (inr l) =
          curves_same c d n o
          (one_end e.side e.gives.cells e.gives.seconds.matrix (Err c) (Err d) e.gives.gives (end_up f.side e.side f.gives.cells e.gives.cells d l f.gives.seconds e.gives.seconds f.gives.gives))

  -- a fold that ends comes before a double that is wide
  no_double : (k : ℕ) (c : Curve) → c ≢ NoMemory → DoubleEnds q vs k → FoldEnds q vs c → ⊥
  no_double k c named d e = go (cases e.side d.row)
    where
      cases : (i j : ℕ) → (j < i) ⊎ (i ≤ j)
      cases i j = grind arith

      go : (d.row < e.side) ⊎ (e.side ≤ d.row) → ⊥
      go (inl l) = e.gives.seconds.narrow d.row l d.wide
      go (inr l) = pass_end d.row c named d.before e l

  doubles_same : (k h : ℕ) → DoubleEnds q vs k → DoubleEnds q vs h → k ≡ h
  doubles_same k h d e = go (cases_order d.row e.row)
    where
      go : (d.row ≡ e.row) ⊎ ((d.row < e.row) ⊎ (e.row < d.row)) → k ≡ h
      go (inl s) = d.is ∙ (ap (λ i. i + 1) s ∙ sym e.is)
      go (inr (inl l)) = absurd (e.before.gives.seconds.narrow d.row l d.wide)
      go (inr (inr l)) = absurd (d.before.gives.seconds.narrow e.row l e.wide)

  passes_end : (c : Curve) → c ≢ NoMemory → FoldPasses q vs (length vs) → GoalGives q vs (Err c) → ⊥
  passes_end (Not k) named p e = pass_end (length vs) (Not k) named p e e.gives.seconds.within
  passes_end (Wide k) named p (inl e) = pass_end (length vs) (Wide k) named p e e.gives.seconds.within
  passes_end (Wide k) named p (inr d) = p.gives.seconds.narrow d.row d.below d.wide
  passes_end NoMemory named p e = named refl

  ends_same : (c d : Curve) → c ≢ NoMemory → d ≢ NoMemory → GoalGives q vs (Err c) → GoalGives q vs (Err d) → c ≡ d
  ends_same (Not k) (Not h) n o e f = fold_same (Not k) (Not h) n o e f
  ends_same (Not k) (Wide h) n o e (inl f) = fold_same (Not k) (Wide h) n o e f
  ends_same (Not k) (Wide h) n o e (inr f) = absurd (no_double h (Not k) n f e)
  ends_same (Wide k) (Not h) n o (inl e) f = fold_same (Wide k) (Not h) n o e f
  ends_same (Wide k) (Not h) n o (inr e) f = absurd (no_double k (Not h) o e f)
  ends_same (Wide k) (Wide h) n o (inl e) (inl f) = fold_same (Wide k) (Wide h) n o e f
  ends_same (Wide k) (Wide h) n o (inl e) (inr f) = absurd (no_double h (Wide k) n f e)
  ends_same (Wide k) (Wide h) n o (inr e) (inl f) = absurd (no_double k (Wide h) o e f)
  ends_same (Wide k) (Wide h) n o (inr e) (inr f) = ap Wide (doubles_same k h e f)
  ends_same (Not k) NoMemory n o e f = absurd (o refl)
  ends_same (Wide k) NoMemory n o e f = absurd (o refl)
  ends_same NoMemory d n o e f = absurd (n refl)

-- ---- blocks
purpose_passes : (p : Purpose) (vs : List VarId) (c : Curve) → c ≢ NoMemory → PurposeGives p vs (Ok tt) → PurposeGives p vs (Err c) → ⊥
purpose_passes (Goal q) vs c named p e = passes_end q vs c named p e
purpose_passes (Flow ls) vs c named p e = e

purpose_ends : (p : Purpose) (vs : List VarId) (c d : Curve) → c ≢ NoMemory → d ≢ NoMemory → PurposeGives p vs (Err c) → PurposeGives p vs (Err d) → c ≡ d
purpose_ends (Goal q) vs c d n o e f = ends_same q vs c d n o e f
purpose_ends (Flow ls) vs c d n o e f = absurd e

-- each block passes where all do
passes_at : (bs : List BlockPart) (i : ℕ) (b : BlockPart) → All BlockPasses bs → slice_get bs i ≡ Some b → BlockPasses b
passes_at bs i b h at = subst BlockPasses (get_or_from_slice_get bs i b b at) (h i b (slice_get_within bs i b at))

-- and so does each block where all before a later one do
passes_before : (bs : List BlockPart) (n i : ℕ) (b : BlockPart) → i < n → n ≤ length bs → All BlockPasses (take n bs) → slice_get bs i ≡ Some b → BlockPasses b
passes_before bs n i b l in_bs h at =
    subst BlockPasses (get_or-take n bs i b l ∙ get_or_from_slice_get bs i b b at) (h i b (let e = length-take-le n bs in_bs in omega (arith, e, l)))

pub all_end : (pr : AgentProblem) (number : ℕ) (c : Curve) → c ≢ NoMemory → All BlockPasses pr.blocks → BlockEnds pr number c → ⊥
all_end pr number c named h e = purpose_passes e.part.purpose e.part.own c named (passes_at pr.blocks e.at e.part h e.there) e.own

record SameEnds (b h : ℕ) (c d : Curve) : Type 0 where
  number : b ≡ h
  curve : c ≡ d

blocks_end : (pr : AgentProblem) (b h : ℕ) (c d : Curve) → c ≢ NoMemory → d ≢ NoMemory → BlockEnds pr b c → BlockEnds pr h d → SameEnds b h c d
blocks_end pr b h c d n o e f = go (cases_order e.at f.at)
  where
    go : (e.at ≡ f.at) ⊎ ((e.at < f.at) ⊎ (f.at < e.at)) → SameEnds b h c d
    go (inl s) =
        let same : e.part ≡ f.part = same_Some e.part f.part (sym e.there ∙ (ap (slice_get pr.blocks) s ∙ f.there)) in
        record {
          number = e.is ∙ (ap (λ i. i + 1) s ∙ sym f.is);
          curve = purpose_ends f.part.purpose f.part.own c d n o (subst (λ (p : BlockPart). BlockGives p (Err c)) same e.own) f.own;
        }
    go (inr (inl l)) =
        let w = slice_get_within pr.blocks f.at f.part f.there in
        absurd (purpose_passes e.part.purpose e.part.own c n (passes_before pr.blocks f.at e.at e.part l (omega arith) f.before e.there) e.own)
    go (inr (inr l)) =
        let w = slice_get_within pr.blocks e.at e.part e.there in
        absurd (purpose_passes f.part.purpose f.part.own d o (passes_before pr.blocks e.at f.at f.part l (omega arith) e.before f.there) f.own)

-- ---- the answer
pub not_memory : (k : ℕ) → Not k ≢ NoMemory
not_memory k e = cc

pub wide_memory : (k : ℕ) → Wide k ≢ NoMemory
wide_memory k e = cc

not_wide : (k h : ℕ) → Not k ≡ Wide h → ⊥
not_wide k h e = cc

not_inside : (k h : ℕ) → Not k ≡ Not h → k ≡ h
not_inside k h e = cc

wide_inside : (k h : ℕ) → Wide k ≡ Wide h → k ≡ h
wide_inside k h e = cc

not_fault : (b h k l : ℕ) → b ≡ h → k ≡ l → ◌≡◌ {A = Result (Unit {0}) ShareFault} (Err (ShareWords.NotConvex b k)) (Err (ShareWords.NotConvex h l))
not_fault b h k l e f = rw (e, f) refl

wide_fault : (b h k l : ℕ) → b ≡ h → k ≡ l → ◌≡◌ {A = Result (Unit {0}) ShareFault} (Err (ShareWords.WideCurve b k)) (Err (ShareWords.WideCurve h l))
wide_fault b h k l e f = rw (e, f) refl

pub one_test : OneTest
one_test pr (Ok u) (Ok v) n o h k = refl
one_test pr (Ok u) (Err (ShareWords.NotConvex b i)) n o h k = absurd (all_end pr b (Not i) (not_memory i) h k)
one_test pr (Ok u) (Err (ShareWords.WideCurve b i)) n o h k = absurd (all_end pr b (Wide i) (wide_memory i) h k)
one_test pr (Err (ShareWords.NotConvex b i)) (Ok v) n o h k = absurd (all_end pr b (Not i) (not_memory i) k h)
one_test pr (Err (ShareWords.WideCurve b i)) (Ok v) n o h k = absurd (all_end pr b (Wide i) (wide_memory i) k h)
one_test pr (Err (ShareWords.NotConvex b i)) (Err (ShareWords.NotConvex c j)) n o h k =
    let s = blocks_end pr b c (Not i) (Not j) (not_memory i) (not_memory j) h k in not_fault b c i j s.number (not_inside i j s.curve)
one_test pr (Err (ShareWords.NotConvex b i)) (Err (ShareWords.WideCurve c j)) n o h k =
    absurd (not_wide i j (blocks_end pr b c (Not i) (Wide j) (not_memory i) (wide_memory j) h k).curve)
one_test pr (Err (ShareWords.WideCurve b i)) (Err (ShareWords.NotConvex c j)) n o h k =
    absurd (not_wide j i (sym (blocks_end pr b c (Wide i) (Not j) (wide_memory i) (not_memory j) h k).curve))
one_test pr (Err (ShareWords.WideCurve b i)) (Err (ShareWords.WideCurve c j)) n o h k =
    let s = blocks_end pr b c (Wide i) (Wide j) (wide_memory i) (wide_memory j) h k in wide_fault b c i j s.number (wide_inside i j s.curve)
one_test pr (Err ShareWords.NoMemory) s n o h k = absurd (n refl)
one_test pr r (Err ShareWords.NoMemory) n o h k = absurd (o refl)
