-- A branch is on a pair that no branch above it splits.
use Rattle.std.proofs.Common.{◌≡◌, ◌≢◌, ℕ, zero, suc, ◌-◌, ◌<◌, ◌≤◌, ◌⊎◌, inl, inr, Bool, true, false, cond, ◌||◌, ◌&&◌, not, nat_eq, List, [], ◌∷◌, length, get_or, Option, Some, None, arith, refl, sym, ap, ap₂, subst, ◌∙◌}
use Rattle.std.proofs.lemmas.Bool.{and_parts, both_ways, cases_eq, eq-eqb}
use Rattle.std.proofs.lemmas.List.Elements.{All-get_or}
use Rattle.emp_algebra.specs.Vector.{is_zero}
use Rattle.emp_rows.specs.declared.system.RowSystem.{RowSystem}
use Rattle.emp_rows.specs.Systems.{IsMember}
use Rattle.emp_rows.specs.RowPoints.{pair}
use Rattle.emp_cert.specs.declared.tree.Turn.{Turn}
use Rattle.emp_cert.specs.Paths.{is_split}
use Rattle.emp_cert.specs.Paths.{turn as path_turn}
use Rattle.emp_dict.specs.declared.label.Label.TheVariants.{Quantity}
use Rattle.emp_dict.specs.declared.label.Mark.TheVariants.{Fixed}
use Rattle.emp_dict.specs.declared.label.Aim.TheVariants.{Least}
use Rattle.emp_dict.specs.Dictionary.{Dictionary, column_label, mark_at, row_of, label_eq}
use Rattle.emp_dict.specs.Places.{is_positive}
use Rattle.emp_dict.proofs.Labels.{label_eq-false}
use Rattle.emp_step.specs.declared.outcome.Outcome.{Outcome}
use Rattle.emp_step.specs.declared.outcome.Outcome.TheVariants.{Held, Empty, Best, Ray}
use Rattle.emp_step.specs.Steps.{ended, mark_of_label}
use Rattle.emp_step.proofs.Labels.{row_found}
use Rattle.emp_search.specs.Search.{above_by, above, both_above, still_by, still, is_broken, first_pair, point, ray, Decision, leaf, branch, finding, is_bounded, split_or, bound_of, decided}
use Rattle.emp_search.specs.Nodes.{IsNode, IsSettled}
use Rattle.emp_search.proofs.Outcomes.{rays}
use Rattle.emp_search.proofs.Working.{WorkedAs}
use Rattle.emp_search.proofs.Solved.{loose}
use Rattle.emp_search.proofs.Showing.{first_some, CanSplit}

-- ---- the pairs that are left
-- of the first n pairs, how many are not split on the path
abbrev pub unsplit : List Turn → ℕ → ℕ
unsplit p zero = 0
unsplit p (suc n) = cond (is_split p (suc n)) (unsplit p n) (suc (unsplit p n))

pub unsplit_root : (n : ℕ) → unsplit [] n ≡ n
unsplit_root zero = refl
unsplit_root (suc n) = ap suc (unsplit_root n)

-- one turn more splits no fewer
fewer : (x y : Bool) (a b : ℕ) → a ≤ b → cond (x || y) a (suc a) ≤ cond y b (suc b)
fewer true true a b h = h
fewer true false a b h = omega arith
fewer false true a b h = h
fewer false false a b h = omega arith

unsplit_on : (t : Turn) (p : List Turn) (n : ℕ) → unsplit (t ∷ p) n ≤ unsplit p n
unsplit_on t p zero = omega arith
unsplit_on t p (suc n) = fewer (nat_eq (suc n) t.pair) (is_split p (suc n)) (unsplit (t ∷ p) n) (unsplit p n) (unsplit_on t p n)

-- and a turn on a pair that is not split yet leaves fewer
pub unsplit_less : (k : ℕ) (b : Bool) (p : List Turn) (n : ℕ) → is_split p k ≡ false → 0 < k → k ≤ n → unsplit (path_turn k b ∷ p) n < unsplit p n
unsplit_less k b p zero free above within = absurd (omega arith)
unsplit_less k b p (suc n) free above within = go (cases_eq (suc n) k) (λ h. unsplit_less k b p n free above h)
  where
    here : suc n ≡ k → unsplit (path_turn k b ∷ p) n < suc (unsplit p n)
    here e = let h = unsplit_on (path_turn k b) p n in omega arith

    later : (x y : Bool) (a c : ℕ) → a < c → cond (x || y) a (suc a) < cond y c (suc c)
    later true true a c h = h
    later true false a c h = omega arith
    later false true a c h = h
    later false false a c h = omega arith

    last : (x y : Bool) (a c : ℕ) → x ≡ true → y ≡ false → a < suc c → cond (x || y) a (suc a) < cond y c (suc c)
    last true false a c e f h = h
    last true true a c e f h = absurd (cc)
    last false y a c e f h = absurd (cc)

    go : (suc n ≡ k) ⊎ (suc n ≢ k) → (k ≤ n → unsplit (path_turn k b ∷ p) n < unsplit p n) → unsplit (path_turn k b ∷ p) (suc n) < unsplit p (suc n)
    go (inl e) rest = last (nat_eq (suc n) k) (is_split p (suc n)) (unsplit (path_turn k b ∷ p) n) (unsplit p n) (eq-eqb (suc n) k e) (ap (is_split p) e ∙ free) (here e)
    go (inr e) rest = later (nat_eq (suc n) k) (is_split p (suc n)) (unsplit (path_turn k b ∷ p) n) (unsplit p n) (rest (omega arith))

-- ---- members of pairs
abbrev IsQuantity : RowSystem → ℕ → Type 0
IsQuantity s k = (0 < k) × (k ≤ length s.quantities)

member_of : (s : RowSystem) (k : ℕ) → IsMember s.kinds k → IsQuantity s k
member_of s k m = (m.above, let w = m.within in let o = s.sound.one_kind_each in omega arith)

-- ---- a Fixed member is not above 0, and stays 0
not_above : (s : RowSystem) (p : List Turn) (d : Dictionary) → IsNode s p d → (k : ℕ) → above d k ≡ true → mark_at d k ≢ Fixed
not_above s p d n k e f = both_ways (above d k) (go (row_of d (Quantity k)) refl) e
  where
    go : (o : Option ℕ) → row_of d (Quantity k) ≡ o → above_by d o ≡ false
    go None q = refl
    go (Some i) q = let r = row_found d (Quantity k) i q in ap is_positive (n.level.fixed i k r.below r.label f)

stays_still : (s : RowSystem) (p : List Turn) (d : Dictionary) → IsNode s p d → (k j : ℕ) → j < length d.columns → mark_of_label d (column_label d j) ≢ Fixed → mark_at d k ≡ Fixed → still d j k ≡ true
stays_still s p d n k j b free f = go (row_of d (Quantity k)) refl
  where
    go : (o : Option ℕ) → row_of d (Quantity k) ≡ o → still_by d j (label_eq (Quantity k) (column_label d j)) o ≡ true
    go None e = ap not (label_eq-false (Quantity k) (column_label d j) (λ z. free (sym (ap (mark_of_label d) z) ∙ f)))
    go (Some i) e = let r = row_found d (Quantity k) i e in ap₂ (λ x y. is_zero x && is_zero y) (n.level.fixed i k r.below r.label f) (n.level.still i k j r.below r.label f b free)

-- neither member is Fixed
abbrev AreFree : Dictionary → ℕ × ℕ → Type 0
AreFree d q = (mark_at d q.0 ≢ Fixed) × (mark_at d q.1 ≢ Fixed)

above_free : (s : RowSystem) (p : List Turn) (d : Dictionary) → IsNode s p d → (q : ℕ × ℕ) → both_above d q ≡ true → AreFree d q
above_free s p d n (a, b) e = let h = and_parts (above d a) (above d b) e in (not_above s p d n a h.0, not_above s p d n b h.1)

broken_free : (s : RowSystem) (p : List Turn) (d : Dictionary) (j : ℕ) → IsNode s p d → j < length d.columns → mark_of_label d (column_label d j) ≢ Fixed → (q : ℕ × ℕ) → is_broken d j q ≡ true → AreFree d q
broken_free s p d j n b free (x, y) e = (
  λ f. first (still d j x) (still d j y) (stays_still s p d n x j b free f) e,
  λ f. second (still d j x) (still d j y) (stays_still s p d n y j b free f) e,
)
  where
    first : (u v : Bool) → u ≡ true → not (u || v) ≡ true → ⊥
    first true v h g = absurd (cc)
    first false v h g = absurd (cc)

    second : (u v : Bool) → v ≡ true → not (u || v) ≡ true → ⊥
    second true v h g = absurd (cc)
    second false true h g = absurd (cc)
    second false false h g = absurd (cc)

-- ---- the pair of a branch
splits : (s : RowSystem) (p : List Turn) (d : Dictionary) (test : ℕ × ℕ → Bool) (k : ℕ) → first_pair test 1 s.pairs ≡ Some k → ((q : ℕ × ℕ) → test q ≡ true → AreFree d q) → CanSplit s p d k
splits s p d test k e free =
    let f = first_some test 1 s.pairs k e in
    let at : f.place ≡ k - 1 = let i = f.is in omega arith in
    let below : k - 1 < length s.pairs = let b = f.below in omega arith in
    let u : AreFree d (pair s k) = subst (λ n. AreFree d (get_or s.pairs n (0, 0))) at (free (get_or s.pairs f.place (0, 0)) f.passes) in
    record {
      number = (let i = f.is in omega arith, let i = f.is in let b = f.below in omega arith);
      first = member_of s (pair s k).0 (All-get_or (λ q. IsMember s.kinds q.0) s.pairs (k - 1) (0, 0) below s.sound.first_members);
      second = member_of s (pair s k).1 (All-get_or (λ q. IsMember s.kinds q.1) s.pairs (k - 1) (0, 0) below s.sound.second_members);
      first_free = u.0;
      second_free = u.1;
    }

-- what is so of a decision: its node is done where it is to branch, and the pair may be split there
abbrev pub IsOpen : RowSystem → List Turn → Dictionary → Decision → Type 0
IsOpen s p d (leaf n best) = Unit {0}
IsOpen s p d (branch k) = IsSettled s p d × CanSplit s p d k
IsOpen s p d (finding f) = Unit {0}

split_open : (s : RowSystem) (p : List Turn) (d : Dictionary) (test : ℕ × ℕ → Bool) (x : Decision) → IsSettled s p d → ((q : ℕ × ℕ) → test q ≡ true → AreFree d q) → IsOpen s p d x → IsOpen s p d (split_or x (first_pair test 1 s.pairs))
split_open s p d test x w free h = go (first_pair test 1 s.pairs) refl
  where
    go : (o : Option ℕ) → first_pair test 1 s.pairs ≡ o → IsOpen s p d (split_or x o)
    go None q = h
    go (Some k) q = (w, splits s p d test k q free)

pub decided_open : (s : RowSystem) (p : List Turn) (best : Option Dictionary) (d : Dictionary) (o : Outcome) → WorkedAs s p d (ended o) → IsOpen s p d (decided s best d o)
decided_open s p best d Held w = split_open s p d (both_above d) (finding (point d)) w.1 (λ q e. above_free s p d w.1.node q e) tt
decided_open s p best d (Empty r) w = tt
decided_open s p best d (Best r) w = go (is_bounded best d r)
  where
    go : (c : Bool) → IsOpen s p d (cond c (leaf (bound_of d r) best) (split_or (leaf (bound_of d r) (Some d)) (first_pair (both_above d) 1 s.pairs)))
    go true = tt
    go false = split_open s p d (both_above d) (leaf (bound_of d r) (Some d)) w.2 (λ q e. above_free s p d w.2.node q e) tt
decided_open s p best d (Ray j up) w =
    split_open s p d (is_broken d j) (finding (ray d j up)) w.2 (λ q e. broken_free s p d j w.2.node (rays d Least j up w.3).opens.below (loose s p d w.2 j up w.0 w.1 w.3) q e) tt
