-- What the search writes is a tree that shows what it found.
use Rattle.std.proofs.Common.{◌≡◌, ◌≢◌, ℕ, zero, suc, ◌+◌, ◌-◌, ◌<◌, ◌≤◌, ◌⊎◌, inl, inr, ℤ, pos, negsuc, ◌-ℤ◌, ◌*ℤ◌, ◌≤ℤ◌, ◌<ℤ◌, Bool, true, false, cond, ◌||◌, ◌&&◌, not, nat_eq, List, [], ◌∷◌, ◌++◌, length, get_or, Option, Some, None, arith, refl, sym, ap, ap₂, subst, ◌∙◌, append_assoc}
use Rattle.std.proofs.lemmas.Bool.{or_cases, and_parts, both_ways, eqb-true, cases_Bool}
use Rattle.std.proofs.lemmas.List.Elements.{All-get_or}
use Rattle.std.proofs.lemmas.Int.{ints}
use Rattle.emp_algebra.proofs.Ring.{var, ◌⊗◌, by_ring}
use Rattle.emp_algebra.proofs.Order.{linear, le_cancel_right, mul_le_right}
use Rattle.emp_num.specs.Point.{Point, StandsFor}
use Rattle.emp_num.specs.declared.frac.Frac.{Frac}
use Rattle.emp_algebra.specs.Vector.{is_zero}
use Rattle.emp_rows.specs.declared.affine.Affine.{Affine}
use Rattle.emp_rows.specs.declared.system.RowSystem.{RowSystem}
use Rattle.emp_rows.specs.Systems.{IsMember}
use Rattle.emp_rows.specs.RowPoints.{pair, value_at, OneVanishes}
use Rattle.emp_cert.specs.declared.tree.Turn.{Turn}
use Rattle.emp_cert.specs.declared.tree.Node.TheVariants.{Branch, Farkas}
use Rattle.emp_cert.specs.Paths.{is_split}
use Rattle.emp_cert.specs.Paths.{turn as path_turn}
use Rattle.emp_cert.specs.Deciders.{NodeTree, split, refutes, bounds, preorder, ShowsNone, ShowsBest, IsFarkasRow, IsBoundRow}
use Rattle.emp_cert.specs.Verdicts.{OneStays, IsRowRay}
use Rattle.emp_dict.specs.declared.label.Label.TheVariants.{Quantity}
use Rattle.emp_dict.specs.declared.label.Mark.TheVariants.{Fixed}
use Rattle.emp_dict.specs.declared.label.Aim.TheVariants.{Least}
use Rattle.emp_dict.specs.declared.label.Choice.TheVariants.{Stop, Ray as RayChoice}
use Rattle.emp_dict.specs.Dictionary.{Dictionary, line_at, column_label, mark_at, row_of, label_eq}
use Rattle.emp_dict.specs.Chosen.{chosen}
use Rattle.emp_dict.specs.Places.{is_positive}
use Rattle.emp_dict.proofs.Labels.{label_eq-false}
use Rattle.emp_step.specs.declared.outcome.Outcome.{Outcome}
use Rattle.emp_step.specs.declared.outcome.Outcome.TheVariants.{Held, Empty, Best, Ray}
use Rattle.emp_step.specs.Steps.{End, ended, too_wide, spent, mark_of_label}
use Rattle.emp_step.proofs.Labels.{row_found}
use Rattle.emp_decide.specs.Reads.{farkas_factors, bound_weight, bound_factors, IsPointOf, IsStepOf}
use Rattle.emp_decide.specs.Laws.{IsDictionaryOf, IsRefused}
use Rattle.emp_decide.proofs.Decides.{refused_refutes, least_bounds, has_objective}
use Rattle.emp_decide.proofs.Rows.{line_is}
use Rattle.emp_search.specs.Search.{Ask, fixes, asked, worked, above_by, above, both_above, still_by, still, is_broken, first_pair, point, ray, leaf, finding, is_bounded, split_or, bound_of, decided, State, Searched, closed, found, wide_at, out_of_units, writes, then_second, by_decision, by_end, opened, searched}
use Rattle.emp_search.specs.Nodes.{IsNode, PathFixed, IsSettled}
use Rattle.emp_search.specs.Shown.{objective_row, Reaches, ShowsFor, IsSolved, BestIs, FoundIs}
use Rattle.emp_search.proofs.Outcomes.{rays}
use Rattle.emp_search.proofs.Working.{AllDone, AskedAs, WorkedAs, work_of, child_asks}
use Rattle.emp_search.proofs.Solved.{solves_by, one_vanishes, is_ray, stays_at, loose}

-- ---- the first pair of a kind
pub record FirstAt (test : ℕ × ℕ → Bool) (k : ℕ) (ps : List (ℕ × ℕ)) (n : ℕ) : Type 0 where
  pub place : ℕ
  pub is : n ≡ k + place
  pub below : place < length ps
  pub passes : test (get_or ps place (0, 0)) ≡ true

pub first_some : (test : ℕ × ℕ → Bool) (k : ℕ) (ps : List (ℕ × ℕ)) (n : ℕ) → first_pair test k ps ≡ Some n → FirstAt test k ps n
first_some test k [] n e = absurd (cc)
first_some test k (q ∷ ps) n e = go (test q) refl e (λ h. first_some test (k + 1) ps n h)
  where
    go : (b : Bool) → test q ≡ b → cond b (Some k) (first_pair test (k + 1) ps) ≡ Some n → (first_pair test (k + 1) ps ≡ Some n → FirstAt test (k + 1) ps n) → FirstAt test k (q ∷ ps) n
    go true t h rest = let same : k ≡ n = cc in record { place = 0; is = omega arith; below = omega arith; passes = t }
    go false t h rest = let r = rest h in record { place = suc r.place; is = let i = r.is in omega arith; below = let b = r.below in omega arith; passes = r.passes }

pub first_none : (test : ℕ × ℕ → Bool) (k : ℕ) (ps : List (ℕ × ℕ)) → first_pair test k ps ≡ None → (i : ℕ) → i < length ps → test (get_or ps i (0, 0)) ≡ false
first_none test k [] e i h = absurd (omega arith)
first_none test k (q ∷ ps) e i h = go (test q) refl e i h (λ r. first_none test (k + 1) ps r)
  where
    go : (b : Bool) → test q ≡ b → cond b (Some k) (first_pair test (k + 1) ps) ≡ None → (i : ℕ) → i < length (q ∷ ps) → (first_pair test (k + 1) ps ≡ None → (i : ℕ) → i < length ps → test (get_or ps i (0, 0)) ≡ false) → test (get_or (q ∷ ps) i (0, 0)) ≡ false
    go true t h i b rest = absurd (cc)
    go false t h zero b rest = t
    go false t h (suc i) b rest = rest h i (omega arith)

-- ---- members of pairs
pub first_number : (s : RowSystem) (i : ℕ) → i < length s.pairs → (0 < (get_or s.pairs i (0, 0)).0) × ((get_or s.pairs i (0, 0)).0 ≤ length s.quantities)
first_number s i b = let m = All-get_or (λ q. IsMember s.kinds q.0) s.pairs i (0, 0) b s.sound.first_members in (m.above, let w = m.within in let o = s.sound.one_kind_each in omega arith)

pub second_number : (s : RowSystem) (i : ℕ) → i < length s.pairs → (0 < (get_or s.pairs i (0, 0)).1) × ((get_or s.pairs i (0, 0)).1 ≤ length s.quantities)
second_number s i b = let m = All-get_or (λ q. IsMember s.kinds q.1) s.pairs i (0, 0) b s.sound.second_members in (m.above, let w = m.within in let o = s.sound.one_kind_each in omega arith)

-- ---- a Fixed member is not above 0, and stays 0
fixed_not_above : (s : RowSystem) (p : List Turn) (d : Dictionary) → IsNode s p d → (k : ℕ) → mark_at d k ≡ Fixed → above d k ≡ false
fixed_not_above s p d n k f = go (row_of d (Quantity k)) refl
  where
    go : (o : Option ℕ) → row_of d (Quantity k) ≡ o → above_by d o ≡ false
    go None e = refl
    go (Some i) e = let r = row_found d (Quantity k) i e in ap is_positive (n.level.fixed i k r.below r.label f)

fixed_still : (s : RowSystem) (p : List Turn) (d : Dictionary) → IsNode s p d → (k j : ℕ) → mark_at d k ≡ Fixed → j < length d.columns → mark_of_label d (column_label d j) ≢ Fixed → still d j k ≡ true
fixed_still s p d n k j f b free = go (row_of d (Quantity k)) refl
  where
    go : (o : Option ℕ) → row_of d (Quantity k) ≡ o → still_by d j (label_eq (Quantity k) (column_label d j)) o ≡ true
    go None e = ap not (label_eq-false (Quantity k) (column_label d j) (λ z. free (sym (ap (mark_of_label d) z) ∙ f)))
    go (Some i) e = let r = row_found d (Quantity k) i e in ap₂ (λ x y. is_zero x && is_zero y) (n.level.fixed i k r.below r.label f) (n.level.still i k j r.below r.label f b free)

-- a pair that is split on the path has a Fixed member
split_fixed : (s : RowSystem) (p : List Turn) (d : Dictionary) (k : ℕ) → PathFixed s p d → is_split p k ≡ true → (mark_at d (pair s k).0 ≡ Fixed) ⊎ (mark_at d (pair s k).1 ≡ Fixed)
split_fixed s [] d k f e = absurd (cc)
split_fixed s (t ∷ p) d k f e = go (or_cases (nat_eq k t.pair) (is_split p k) e) (λ h. split_fixed s p d k f.1 h)
  where
    by : (b : Bool) → t.second ≡ b → k ≡ t.pair → (mark_at d (pair s k).0 ≡ Fixed) ⊎ (mark_at d (pair s k).1 ≡ Fixed)
    by false q z = inl (ap (λ n. mark_at d (pair s n).0) z ∙ (sym (ap (λ b. mark_at d (cond b (pair s t.pair).1 (pair s t.pair).0)) q) ∙ f.0))
    by true q z = inr (ap (λ n. mark_at d (pair s n).1) z ∙ (sym (ap (λ b. mark_at d (cond b (pair s t.pair).1 (pair s t.pair).0)) q) ∙ f.0))

    go : (nat_eq k t.pair ≡ true) ⊎ (is_split p k ≡ true) → (is_split p k ≡ true → (mark_at d (pair s k).0 ≡ Fixed) ⊎ (mark_at d (pair s k).1 ≡ Fixed)) → (mark_at d (pair s k).0 ≡ Fixed) ⊎ (mark_at d (pair s k).1 ≡ Fixed)
    go (inl h) rest = by t.second refl (eqb-true k t.pair h)
    go (inr h) rest = rest h

-- ---- a pair that may be split: a number, two members that are not Fixed
pub record CanSplit (s : RowSystem) (p : List Turn) (d : Dictionary) (k : ℕ) : Type 0 where
  pub number : (0 < k) × (k ≤ length s.pairs)
  pub first : (0 < (pair s k).0) × ((pair s k).0 ≤ length s.quantities)
  pub second : (0 < (pair s k).1) × ((pair s k).1 ≤ length s.quantities)
  pub first_free : mark_at d (pair s k).0 ≢ Fixed
  pub second_free : mark_at d (pair s k).1 ≢ Fixed

pub not_split : (s : RowSystem) (p : List Turn) (d : Dictionary) (k : ℕ) → PathFixed s p d → CanSplit s p d k → is_split p k ≡ false
not_split s p d k f c = go (cases_Bool (is_split p k))
  where
    none : (mark_at d (pair s k).0 ≡ Fixed) ⊎ (mark_at d (pair s k).1 ≡ Fixed) → ⊥
    none (inl h) = c.first_free h
    none (inr h) = c.second_free h

    go : (is_split p k ≡ true) ⊎ (is_split p k ≡ false) → is_split p k ≡ false
    go (inl h) = absurd (none (split_fixed s p d k f h))
    go (inr h) = h

can_split : (s : RowSystem) (p : List Turn) (d : Dictionary) (test : ℕ × ℕ → Bool) (k : ℕ) → first_pair test 1 s.pairs ≡ Some k → ((i : ℕ) → i < length s.pairs → test (get_or s.pairs i (0, 0)) ≡ true → (mark_at d (get_or s.pairs i (0, 0)).0 ≢ Fixed) × (mark_at d (get_or s.pairs i (0, 0)).1 ≢ Fixed)) → CanSplit s p d k
can_split s p d test k e free =
    let f = first_some test 1 s.pairs k e in
    let at : k - 1 ≡ f.place = let i = f.is in omega arith in
    let u = free f.place f.below f.passes in
    record {
      number = (let i = f.is in omega arith, let i = f.is in let b = f.below in omega arith);
      first = subst (λ n. (0 < (get_or s.pairs n (0, 0)).0) × ((get_or s.pairs n (0, 0)).0 ≤ length s.quantities)) (sym at) (first_number s f.place f.below);
      second = subst (λ n. (0 < (get_or s.pairs n (0, 0)).1) × ((get_or s.pairs n (0, 0)).1 ≤ length s.quantities)) (sym at) (second_number s f.place f.below);
      first_free = subst (λ n. mark_at d (get_or s.pairs n (0, 0)).0 ≢ Fixed) (sym at) u.0;
      second_free = subst (λ n. mark_at d (get_or s.pairs n (0, 0)).1 ≢ Fixed) (sym at) u.1;
    }

above_free : (s : RowSystem) (p : List Turn) (d : Dictionary) → IsNode s p d → (q : ℕ × ℕ) → both_above d q ≡ true → (mark_at d q.0 ≢ Fixed) × (mark_at d q.1 ≢ Fixed)
above_free s p d n (a, b) e =
    let h = and_parts (above d a) (above d b) e in
    (λ f. both_ways (above d a) (fixed_not_above s p d n a f) h.0, λ f. both_ways (above d b) (fixed_not_above s p d n b f) h.1)

broken_free : (s : RowSystem) (p : List Turn) (d : Dictionary) (j : ℕ) → IsNode s p d → j < length d.columns → mark_of_label d (column_label d j) ≢ Fixed → (q : ℕ × ℕ) → is_broken d j q ≡ true → (mark_at d q.0 ≢ Fixed) × (mark_at d q.1 ≢ Fixed)
broken_free s p d j n b free (x, y) e = (
  λ f. both_ways (is_broken d j (x, y)) (ap (λ c. not (c || still d j y)) (fixed_still s p d n x j f b free)) e,
  λ f. both_ways (is_broken d j (x, y)) (ap (λ c. not (still d j x || c)) (fixed_still s p d n y j f b free) ∙ second (still d j x)) e,
)
  where
    second : (c : Bool) → not (c || true) ≡ false
    second true = refl
    second false = refl

-- ---- values in order
crossing : (v k ec ed dc dd : ℤ) → pos 0 <ℤ ed → pos 0 <ℤ dd → pos 0 <ℤ k → (v *ℤ ed) ≤ℤ (ec *ℤ k) → (ec *ℤ dd) ≤ℤ (dc *ℤ ed) → (v *ℤ dd) ≤ℤ (dc *ℤ k)
crossing v k ec ed dc dd pe pd pk h g =
    let a : (v *ℤ ed *ℤ dd) ≤ℤ (ec *ℤ k *ℤ dd) = mul_le_right (v *ℤ ed) (ec *ℤ k) dd h (omega (arith, ints)) in
    let b : (ec *ℤ dd *ℤ k) ≤ℤ (dc *ℤ ed *ℤ k) = mul_le_right (ec *ℤ dd) (dc *ℤ ed) k g (omega (arith, ints)) in
    let l : v *ℤ dd *ℤ ed ≡ v *ℤ ed *ℤ dd = by_ring (v ∷ dd ∷ ed ∷ []) (var 0 ⊗ var 1 ⊗ var 2) (var 0 ⊗ var 2 ⊗ var 1) refl in
    let m : ec *ℤ k *ℤ dd ≡ ec *ℤ dd *ℤ k = by_ring (ec ∷ k ∷ dd ∷ []) (var 0 ⊗ var 1 ⊗ var 2) (var 0 ⊗ var 2 ⊗ var 1) refl in
    let r : dc *ℤ k *ℤ ed ≡ dc *ℤ ed *ℤ k = by_ring (dc ∷ k ∷ ed ∷ []) (var 0 ⊗ var 1 ⊗ var 2) (var 0 ⊗ var 2 ⊗ var 1) refl in
    le_cancel_right (v *ℤ dd) (dc *ℤ k) ed (omega (arith, linear)) pe

above-false : (z : ℤ) → not (is_positive z) ≡ true → z ≤ℤ pos 0
above-false (pos zero) e = omega (arith, ints)
above-false (pos (suc n)) e = absurd (cc)
above-false (negsuc n) e = omega (arith, ints)

above-true : (z : ℤ) → not (is_positive z) ≡ false → pos 0 ≤ℤ z
above-true (pos n) e = omega (arith, ints)
above-true (negsuc n) e = absurd (cc)

-- ---- incumbents
abbrev pub Improves : Option Dictionary → Option Dictionary → Type 0
Improves None c = Unit {0}
Improves (Some e) None = ⊥
Improves (Some e) (Some f) = (o : Affine) (x : Point) → Reaches o x f → Reaches o x e

improves_self : (b : Option Dictionary) → Improves b b
improves_self None = tt
improves_self (Some e) = λ o x h. h

improves_on : (b c d : Option Dictionary) → Improves b c → Improves c d → Improves b d
improves_on None c d h k = tt
improves_on (Some e) None d h k = absurd h
improves_on (Some e) (Some f) None h k = absurd k
improves_on (Some e) (Some f) (Some g) h k = λ o x r. h o x (k o x r)

none_best : (s : RowSystem) (o : Affine) (x : Point) (p : List Turn) (t : NodeTree) → ShowsNone s p t → ShowsBest s o x p t
none_best s o x p (split k a b) h = (h.0, h.1, none_best s o x (path_turn k false ∷ p) a h.2, none_best s o x (path_turn k true ∷ p) b h.3)
none_best s o x p (refutes fs) h = h
none_best s o x p (bounds w fs) h = absurd h

shows_on : (s : RowSystem) (b c : Option Dictionary) (p : List Turn) (t : NodeTree) → Improves b c → ShowsFor s b p t → ShowsFor s c p t
shows_on s None None p t i h = h
shows_on s None (Some e) p t i h = λ o q x r. none_best s o x p t h
shows_on s (Some e) None p t i h = absurd i
shows_on s (Some e) (Some f) p t i h = λ o q x r. h o q x (i o x r)

shows_split : (s : RowSystem) (b : Option Dictionary) (p : List Turn) (k : ℕ) (t u : NodeTree) → (0 < k) × (k ≤ length s.pairs) → is_split p k ≡ false → ShowsFor s b (path_turn k false ∷ p) t → ShowsFor s b (path_turn k true ∷ p) u → ShowsFor s b p (split k t u)
shows_split s None p k t u n f a c = (n, f, a, c)
shows_split s (Some e) p k t u n f a c = λ o q x r. (n, f, a o q x r, c o q x r)

shows_refutes : (s : RowSystem) (b : Option Dictionary) (p : List Turn) (fs : List ℤ) → IsFarkasRow s p fs → ShowsFor s b p (refutes fs)
shows_refutes s None p fs h = h
shows_refutes s (Some e) p fs h = λ o q x r. h

-- ---- what a node and all below it come to
pub record Closes (s : RowSystem) (p : List Turn) (before after : State) : Type 0 where
  pub tree : NodeTree
  pub written : after.written ≡ before.written ++ preorder tree
  pub improves : Improves before.best after.best
  pub shows : ShowsFor s after.best p tree
  pub best : BestIs s after.best

abbrev pub ComesTo : RowSystem → List Turn → State → Searched → Type 0
ComesTo s p st (closed after) = Closes s p st after
ComesTo s p st (found f after) = FoundIs s f
ComesTo s p st (wide_at n q) = Unit {0}
ComesTo s p st out_of_units = Unit {0}

-- ---- leaves
record Same (before after : State) : Type 0 where
  pub written : after.written ≡ before.written
  pub best : after.best ≡ before.best

closes_refuted : (s : RowSystem) (p : List Turn) (d : Dictionary) (r k : ℕ) (st : State) → IsNode s p d → IsRefused s p d r k → BestIs s st.best → Closes s p st (writes (Farkas (farkas_factors d r)) st.best st)
closes_refuted s p d r k st n x b = record {
  tree = refutes (farkas_factors d r);
  written = refl;
  improves = improves_self st.best;
  shows = shows_refutes s st.best p (farkas_factors d r) (refused_refutes s p d r k n.dictionary n.level n.on x);
  best = b;
}

denom_pos : (s : RowSystem) (d : Dictionary) (o : Affine) → IsDictionaryOf s d → s.objective ≡ Some o → pos 0 <ℤ (objective_row d).denom
denom_pos s d o t e = (line_is d t.sound (length d.marks) (has_objective s d o t e)).positive

bound_shows : (s : RowSystem) (p : List Turn) (d : Dictionary) (r : ℕ) (o : Affine) (x : Point) → IsNode s p d → s.objective ≡ Some o → r ≡ length d.marks → chosen d Least ≡ Stop → Reaches o x d → IsBoundRow s o x p (bound_weight d r) (bound_factors d r)
bound_shows s p d r o x n e q stop h = subst (λ i. IsBoundRow s o x p (bound_weight d i) (bound_factors d i)) (sym q) (least_bounds s o x p d n.dictionary e n.level n.on stop h)

below_zero : (x y : ℤ) → (x -ℤ y) ≤ℤ pos 0 → x ≤ℤ y
below_zero x y h = omega (arith, ints)

above_zero : (x y : ℤ) → pos 0 ≤ℤ (x -ℤ y) → y ≤ℤ x
above_zero x y h = omega (arith, ints)

closes_bounded : (s : RowSystem) (p : List Turn) (d : Dictionary) (r : ℕ) (st : State) → IsNode s p d → r ≡ length d.marks → chosen d Least ≡ Stop → BestIs s st.best → is_bounded st.best d r ≡ true → Closes s p st (writes (bound_of d r) st.best st)
closes_bounded s p d r st n q stop b h = record { tree = bounds (bound_weight d r) (bound_factors d r); written = refl; improves = improves_self st.best; shows = shows st.best b h; best = b }
  where
    shows : (c : Option Dictionary) → BestIs s c → is_bounded c d r ≡ true → ShowsFor s c p (bounds (bound_weight d r) (bound_factors d r))
    shows None b h = absurd (cc)
    shows (Some e) b h = λ o f x reach.
        let g : ((objective_row e).constant *ℤ (line_at d r).denom) ≤ℤ ((line_at d r).constant *ℤ (objective_row e).denom) = below_zero ((objective_row e).constant *ℤ (line_at d r).denom) ((line_at d r).constant *ℤ (objective_row e).denom) (above-false ((objective_row e).constant *ℤ (line_at d r).denom -ℤ (line_at d r).constant *ℤ (objective_row e).denom) h) in
        bound_shows s p d r o x n f q stop
        (crossing (value_at o x) x.den (objective_row e).constant (objective_row e).denom (objective_row d).constant (objective_row d).denom (denom_pos s e o b.1.dictionary f) (denom_pos s d o n.dictionary f) x.positive reach (subst (λ i. ((objective_row e).constant *ℤ (line_at d i).denom) ≤ℤ ((line_at d i).constant *ℤ (objective_row e).denom)) q g))

closes_better : (s : RowSystem) (p : List Turn) (d : Dictionary) (r : ℕ) (o : Affine) (st : State) → IsNode s p d → s.objective ≡ Some o → r ≡ length d.marks → chosen d Least ≡ Stop → BestIs s st.best → IsSolved s d → is_bounded st.best d r ≡ false → Closes s p st (writes (bound_of d r) (Some d) st)
closes_better s p d r o st n e q stop b solved h = record { tree = bounds (bound_weight d r) (bound_factors d r); written = refl; improves = improves st.best b h; shows = λ f g x reach. bound_shows s p d r f x n g q stop reach; best = ((o, e), solved) }
  where
    improves : (c : Option Dictionary) → BestIs s c → is_bounded c d r ≡ false → Improves c (Some d)
    improves None b h = tt
    improves (Some f) b h = λ g x reach.
        let k : ((line_at d r).constant *ℤ (objective_row f).denom) ≤ℤ ((objective_row f).constant *ℤ (line_at d r).denom) = above_zero ((objective_row f).constant *ℤ (line_at d r).denom) ((line_at d r).constant *ℤ (objective_row f).denom) (above-true ((objective_row f).constant *ℤ (line_at d r).denom -ℤ (line_at d r).constant *ℤ (objective_row f).denom) h) in
        crossing (value_at g x) x.den (objective_row d).constant (objective_row d).denom (objective_row f).constant (objective_row f).denom (denom_pos s d o n.dictionary e) (denom_pos s f o b.1.dictionary e) x.positive reach (subst (λ i. ((line_at d i).constant *ℤ (objective_row f).denom) ≤ℤ ((objective_row f).constant *ℤ (line_at d i).denom)) q k)

-- ---- points and rays
solved_of : (s : RowSystem) (p : List Turn) (d : Dictionary) → IsSettled s p d → first_pair (both_above d) 1 s.pairs ≡ None → IsSolved s d
solved_of s p d st none = record { dictionary = st.node.dictionary; solves = λ fs x is stands. solves_by s p d st fs x is stands (λ k b. by fs x is stands (get_or s.pairs k (0, 0)) (first_number s k b) (second_number s k b) (first_none (both_above d) 1 s.pairs none k b)) }
  where
    by : (fs : List Frac) (x : Point) → IsPointOf d fs → StandsFor fs x → (q : ℕ × ℕ) → (0 < q.0) × (q.0 ≤ length s.quantities) → (0 < q.1) × (q.1 ≤ length s.quantities) → both_above d q ≡ false → OneVanishes s x q
    by fs x is stands (a, b) ha hb e = one_vanishes s p d st fs x is stands a b ha hb e

ray_of : (s : RowSystem) (p : List Turn) (d : Dictionary) (j : ℕ) (up : Bool) (o : Affine) → IsSettled s p d → (e : s.objective ≡ Some o) → (goes : chosen d Least ≡ RayChoice j up) → first_pair (is_broken d j) 1 s.pairs ≡ None → (fs gs : List Frac) (x y : Point) → IsPointOf d fs → IsStepOf d j up gs → StandsFor fs x → StandsFor gs y → IsRowRay s x y
ray_of s p d j up o st e goes none fs gs x y is step stands steps =
    is_ray s p d st j up o e goes fs gs x y is step stands steps (λ k b. by (get_or s.pairs k (0, 0)) (first_number s k b) (second_number s k b) (first_none (is_broken d j) 1 s.pairs none k b))
  where
    by : (q : ℕ × ℕ) → (0 < q.0) × (q.0 ≤ length s.quantities) → (0 < q.1) × (q.1 ≤ length s.quantities) → is_broken d j q ≡ false → OneStays s x y q
    by (a, b) ha hb h = stays_at s p d st j up o e goes fs gs x y is step stands steps a b ha hb h

-- ---- branches
abbrev Opens : RowSystem → (List Ask → Dictionary → State → Searched) → Type 0
Opens s below = (p : List Turn) (as' : List Ask) (d : Dictionary) (st : State) → ((n : ℕ) → AskedAs s p (AllDone s p) (asked as' n d).dictionary (asked as' n d).end) → BestIs s st.best → ComesTo s p st (below as' d st)

closes_both : (s : RowSystem) (p : List Turn) (d : Dictionary) (k : ℕ) (st one two : State) → PathFixed s p d → CanSplit s p d k → Closes s (path_turn k false ∷ p) (writes (Branch k) st.best st) one → Closes s (path_turn k true ∷ p) one two → Closes s p st two
closes_both s p d k st one two f c a b = record {
  tree = split k a.tree b.tree;
  written = b.written ∙ (ap (λ ws. ws ++ preorder b.tree) a.written ∙ (append_assoc (st.written ++ Branch k ∷ []) (preorder a.tree) (preorder b.tree) ∙ append_assoc st.written (Branch k ∷ []) (preorder a.tree ++ preorder b.tree)));
  improves = improves_on st.best one.best two.best a.improves b.improves;
  shows = shows_split s two.best p k a.tree b.tree c.number (not_split s p d k f c) (shows_on s one.best two.best (path_turn k false ∷ p) a.tree b.improves a.shows) b.shows;
  best = b.best;
}

branch_comes : (s : RowSystem) (below : List Ask → Dictionary → State → Searched) → Opens s below → (p : List Turn) (d : Dictionary) (k : ℕ) (st : State) → IsSettled s p d → CanSplit s p d k → BestIs s st.best → ComesTo s p st (then_second below s k d (below (fixes (pair s k).0 ∷ []) d (writes (Branch k) st.best st)))
branch_comes s below opens p d k st settled c b = first (below (fixes (pair s k).0 ∷ []) d (writes (Branch k) st.best st)) (opens (path_turn k false ∷ p) (fixes (pair s k).0 ∷ []) d (writes (Branch k) st.best st) (λ n. child_asks s (path_turn k false) p n d settled (c.first.0, number (pair s k).0 c.first.1) c.first_free) b)
  where
    number : (m : ℕ) → m ≤ length s.quantities → m ≤ length d.marks
    number m h = let q = settled.node.dictionary.marks in omega arith

    second : (one : State) (r : Searched) → Closes s (path_turn k false ∷ p) (writes (Branch k) st.best st) one → ComesTo s (path_turn k true ∷ p) one r → ComesTo s p st r
    second one (closed two) a h = closes_both s p d k st one two settled.path c a h
    second one (found f two) a h = h
    second one (wide_at n q) a h = tt
    second one out_of_units a h = tt

    first : (r : Searched) → ComesTo s (path_turn k false ∷ p) (writes (Branch k) st.best st) r → ComesTo s p st (then_second below s k d r)
    first (closed one) h = second one (below (fixes (pair s k).1 ∷ []) d one) h (opens (path_turn k true ∷ p) (fixes (pair s k).1 ∷ []) d one (λ n. child_asks s (path_turn k true) p n d settled (c.second.0, number (pair s k).1 c.second.1) c.second_free) h.best)
    first (found f one) h = h
    first (wide_at n q) h = tt
    first out_of_units h = tt

-- ---- nodes
module _ (s : RowSystem) (below : List Ask → Dictionary → State → Searched) (opens : Opens s below) (p : List Turn) (d : Dictionary) (st : State) (b : BestIs s st.best) where
  held_comes : (s.objective ≡ None) × IsSettled s p d → ComesTo s p st (by_decision below s d st (decided s st.best d Held))
  held_comes w = go (first_pair (both_above d) 1 s.pairs) refl
    where
      go : (o : Option ℕ) → first_pair (both_above d) 1 s.pairs ≡ o → ComesTo s p st (by_decision below s d st (split_or (finding (point d)) o))
      go None q = (w.0, solved_of s p d w.1 q)
      go (Some k) q = branch_comes s below opens p d k st w.1 (can_split s p d (both_above d) k q (λ i c e. above_free s p d w.1.node (get_or s.pairs i (0, 0)) e)) b

  best_comes : (r : ℕ) (o : Affine) → s.objective ≡ Some o → IsSettled s p d → r ≡ length d.marks → chosen d Least ≡ Stop → ComesTo s p st (by_decision below s d st (decided s st.best d (Best r)))
  best_comes r o e w q stop = go (is_bounded st.best d r) refl
    where
      by : is_bounded st.best d r ≡ false → (x : Option ℕ) → first_pair (both_above d) 1 s.pairs ≡ x → ComesTo s p st (by_decision below s d st (split_or (leaf (bound_of d r) (Some d)) x))
      by h None f = closes_better s p d r o st w.node e q stop b (solved_of s p d w f) h
      by h (Some k) f = branch_comes s below opens p d k st w (can_split s p d (both_above d) k f (λ i c g. above_free s p d w.node (get_or s.pairs i (0, 0)) g)) b

      go : (c : Bool) → is_bounded st.best d r ≡ c → ComesTo s p st (by_decision below s d st (cond c (leaf (bound_of d r) st.best) (split_or (leaf (bound_of d r) (Some d)) (first_pair (both_above d) 1 s.pairs))))
      go true h = closes_bounded s p d r st w.node q stop b h
      go false h = by h (first_pair (both_above d) 1 s.pairs) refl

  ray_comes : (j : ℕ) (up : Bool) (o : Affine) → s.objective ≡ Some o → IsSettled s p d → chosen d Least ≡ RayChoice j up → ComesTo s p st (by_decision below s d st (decided s st.best d (Ray j up)))
  ray_comes j up o e w h = go (first_pair (is_broken d j) 1 s.pairs) refl
    where
      go : (x : Option ℕ) → first_pair (is_broken d j) 1 s.pairs ≡ x → ComesTo s p st (by_decision below s d st (split_or (finding (ray d j up)) x))
      go None q = ((o, e), ray_of s p d j up o w e h q)
      go (Some k) q = branch_comes s below opens p d k st w (can_split s p d (is_broken d j) k q (λ i c g. broken_free s p d j w.node (rays d Least j up h).opens.below (loose s p d w j up o e h) (get_or s.pairs i (0, 0)) g)) b

  outcome_comes : (o : Outcome) → WorkedAs s p d (ended o) → ComesTo s p st (by_decision below s d st (decided s st.best d o))
  outcome_comes Held w = held_comes w
  outcome_comes (Empty r) w = closes_refuted s p d r w.1.0 st w.0 w.1.1 b
  outcome_comes (Best r) w = best_comes r w.0 w.1 w.2 w.3 w.4
  outcome_comes (Ray j up) w = ray_comes j up w.0 w.1 w.2 w.3

-- only what is written and the incumbent matter
comes_from : (s : RowSystem) (p : List Turn) (st : State) (left nodes : ℕ) (r : Searched) → ComesTo s p (record { written = st.written; best = st.best; left = left; nodes = nodes }) r → ComesTo s p st r
comes_from s p st left nodes (closed after) h = record { tree = h.tree; written = h.written; improves = h.improves; shows = h.shows; best = h.best }
comes_from s p st left nodes (found f after) h = h
comes_from s p st left nodes (wide_at n q) h = tt
comes_from s p st left nodes out_of_units h = tt

pub searched_comes : (s : RowSystem) (limit most : ℕ) → Opens s (searched s limit most)
searched_comes s limit zero p as' d st a b = tt
searched_comes s limit (suc most) p as' d st a b = by st.left (λ q bs e st' x y. searched_comes s limit most q bs e st' x y)
  where
    ends : (left : ℕ) → Opens s (searched s limit most) → (e : End) → WorkedAs s p (worked s as' left d).dictionary e → ComesTo s p st (by_end (searched s limit most) s limit st (worked s as' left d) e)
    ends left opens (ended o) w =
        comes_from s p st (worked s as' left d).left (suc st.nodes) (by_decision (searched s limit most) s (worked s as' left d).dictionary (record { written = st.written; best = st.best; left = (worked s as' left d).left; nodes = suc st.nodes }) (decided s st.best (worked s as' left d).dictionary o))
        (outcome_comes s (searched s limit most) opens p (worked s as' left d).dictionary (record { written = st.written; best = st.best; left = (worked s as' left d).left; nodes = suc st.nodes }) b o w)
    ends left opens too_wide w = tt
    ends left opens spent w = tt

    by : (left : ℕ) → Opens s (searched s limit most) → ComesTo s p st (opened (searched s limit most) s limit as' d st left)
    by zero opens = tt
    by (suc left) opens = ends left opens (worked s as' left d).end (work_of s p as' left d (a left))
