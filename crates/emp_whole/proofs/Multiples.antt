-- Numbers all of whose multiples are multiples of the denominators.
use Rattle.std.proofs.Common.{ℕ, ◌*◌, ℤ, pos, ◌*ℤ◌, ◌<ℤ◌, Bool, true, false, ◌&&◌, cond, nat_eq, List, [], ◌∷◌, All, Option, Some, None, unsigned_abs, arith, refl, sym, ap, subst, ◌∙◌}
use Rattle.std.proofs.lemmas.Int.{ints, unsigned_abs-mul}
use Rattle.std.proofs.lemmas.List.Elements.{All-nil, All-cons}
use Prim.Native.Nat.{◌∣◌}
use native.Mathlib.Nat.{dvd-mul_left, dvd-mul_right_of_dvd}
use Rattle.emp_algebra.proofs.Laws.{mul_pos}
use Rattle.emp_algebra.proofs.Ring.{var, lit, ◌⊗◌, by_ring}
use Rattle.emp_num.specs.Whole.{whole}
use Rattle.emp_num.specs.declared.frac.Frac.{Frac}
use Rattle.emp_num.proofs.Gcds.{quot_exact}
use Rattle.emp_ast.specs.declared.tree.VarId.{VarId}
use Rattle.emp_poly.specs.Quads.{linear_at, square_at}
use Rattle.emp_poly.specs.declared.quad.Quad.{Quad}
use Rattle.emp_poly.specs.declared.quad.Lin.{Lin}
use Rattle.emp_problem.specs.declared.problem.Rule.{Rule}
use Rattle.emp_problem.specs.declared.problem.Purpose.{Purpose}
use Rattle.emp_problem.specs.declared.problem.Purpose.TheVariants.{Goal, Flow}
use Rattle.emp_problem.specs.declared.problem.BlockPart.{BlockPart}
use Rattle.emp_problem.specs.declared.problem.LeaderPart.{LeaderPart}
use Rattle.emp_problem.specs.Problem.{IsWholeOver, LinIsOver, QuadIsOver, PurposeIsOver, BlockIsOver, LeaderIsOver}
use Rattle.emp_whole.specs.Whole.{EachProblemIsWhole}

pub over_multiple : (k : ℤ) (f : Frac) → IsWholeOver (k *ℤ f.den) f
over_multiple k f =
    quot_exact (k *ℤ f.den *ℤ f.num) f.den
    (subst (λ z. unsigned_abs f.den ∣ z) (sym (unsigned_abs-mul (k *ℤ f.den) f.num ∙ ap (λ z. z * unsigned_abs f.num) (unsigned_abs-mul k f.den))) (dvd-mul_right_of_dvd (unsigned_abs f.den) (dvd-mul_left (unsigned_abs f.den) (unsigned_abs k)) (unsigned_abs f.num)))

-- each multiple of a number above 0 has the property
record Common (P : ℤ → Type 0) : Type 0 where
  n : ℤ
  positive : pos 0 <ℤ n
  all : (k : ℤ) → P (k *ℤ n)

weaker : (P Q : ℤ → Type 0) → ((n : ℤ) → P n → Q n) → Common P → Common Q
weaker P Q h c = record { n = c.n; positive = c.positive; all = λ k. h (k *ℤ c.n) (c.all k) }

always : (P : ℤ → Type 0) → ((n : ℤ) → P n) → Common P
always P h = record { n = pos 1; positive = omega (arith, ints); all = λ k. h (k *ℤ pos 1) }

both : (P Q : ℤ → Type 0) → Common P → Common Q → Common (λ n. P n × Q n)
both P Q a b = record {
  n = a.n *ℤ b.n;
  positive = mul_pos a.n b.n a.positive b.positive;
  all = λ k. (
    subst P (by_ring (k ∷ a.n ∷ b.n ∷ []) (var 0 ⊗ var 2 ⊗ var 1) (var 0 ⊗ (var 1 ⊗ var 2)) refl) (a.all (k *ℤ b.n)),
    subst Q (by_ring (k ∷ a.n ∷ b.n ∷ []) (var 0 ⊗ var 1 ⊗ var 2) (var 0 ⊗ (var 1 ⊗ var 2)) refl) (b.all (k *ℤ a.n)),
  );
}

each : {A : Type 0} (P : ℤ → A → Type 0) → ((x : A) → Common (λ n. P n x)) → (xs : List A) → Common (λ n. All (P n) xs)
each P h [] = always (λ n. All (P n) []) (λ n. All-nil (P n))
each P h (x ∷ xs) = weaker (λ n. P n x × All (P n) xs) (λ n. All (P n) (x ∷ xs)) (λ n k. All-cons (P n) x xs k.0 k.1) (both (λ n. P n x) (λ n. All (P n) xs) (h x) (each P h xs))

-- ---- polynomials
over_fraction : (f : Frac) → Common (λ n. IsWholeOver n f)
over_fraction f = record { n = f.den; positive = f.positive; all = λ k. over_multiple k f }

one_or_other : (b : Bool) (n : ℤ) (f g : Frac) → IsWholeOver n f → IsWholeOver n g → IsWholeOver n (cond b f g)
one_or_other true n f g h k = h
one_or_other false n f g h k = k

over_linear : (ts : List (VarId × Frac)) → Common (λ n. (v : ℕ) → IsWholeOver n (linear_at ts v))
over_linear [] = weaker (λ n. IsWholeOver n (whole 0)) (λ n. (v : ℕ) → IsWholeOver n (whole 0)) (λ n h v. h) (over_fraction (whole 0))
over_linear (t ∷ ts) =
    weaker (λ n. IsWholeOver n t.1 × ((v : ℕ) → IsWholeOver n (linear_at ts v))) (λ n. (v : ℕ) → IsWholeOver n (linear_at (t ∷ ts) v))
    (λ n h v. one_or_other (nat_eq t.0.at v) n t.1 (linear_at ts v) h.0 (h.1 v))
    (both (λ n. IsWholeOver n t.1) (λ n. (v : ℕ) → IsWholeOver n (linear_at ts v)) (over_fraction t.1) (over_linear ts))

over_square : (ts : List (VarId × VarId × Frac)) → Common (λ n. (u v : ℕ) → IsWholeOver n (square_at ts u v))
over_square [] = weaker (λ n. IsWholeOver n (whole 0)) (λ n. (u v : ℕ) → IsWholeOver n (whole 0)) (λ n h u v. h) (over_fraction (whole 0))
over_square (t ∷ ts) =
    weaker (λ n. IsWholeOver n t.2 × ((u v : ℕ) → IsWholeOver n (square_at ts u v))) (λ n. (u v : ℕ) → IsWholeOver n (square_at (t ∷ ts) u v))
    (λ n h u v. one_or_other (nat_eq t.0.at u && nat_eq t.1.at v) n t.2 (square_at ts u v) h.0 (h.1 u v))
    (both (λ n. IsWholeOver n t.2) (λ n. (u v : ℕ) → IsWholeOver n (square_at ts u v)) (over_fraction t.2) (over_square ts))

over_lin : (l : Lin) → Common (λ n. LinIsOver n l)
over_lin l =
    weaker (λ n. IsWholeOver n l.constant × ((v : ℕ) → IsWholeOver n (linear_at l.linear v))) (λ n. LinIsOver n l)
    (λ n h. record { constant = h.0; linear = h.1 })
    (both (λ n. IsWholeOver n l.constant) (λ n. (v : ℕ) → IsWholeOver n (linear_at l.linear v)) (over_fraction l.constant) (over_linear l.linear))

over_quad : (q : Quad) → Common (λ n. QuadIsOver n q)
over_quad q =
    weaker (λ n. IsWholeOver n q.constant × (((v : ℕ) → IsWholeOver n (linear_at q.linear v)) × ((u v : ℕ) → IsWholeOver n (square_at q.square u v)))) (λ n. QuadIsOver n q)
    (λ n h. record { constant = h.0; linear = h.1.0; square = h.1.1 })
    (both (λ n. IsWholeOver n q.constant) (λ n. ((v : ℕ) → IsWholeOver n (linear_at q.linear v)) × ((u v : ℕ) → IsWholeOver n (square_at q.square u v))) (over_fraction q.constant)
    (both (λ n. (v : ℕ) → IsWholeOver n (linear_at q.linear v)) (λ n. (u v : ℕ) → IsWholeOver n (square_at q.square u v)) (over_linear q.linear) (over_square q.square)))

-- ---- the problem
over_rules : (rs : List Rule) → Common (λ n. All (λ r. LinIsOver n r.row) rs)
over_rules = each (λ n r. LinIsOver n r.row) (λ r. over_lin r.row)

over_purpose : (p : Purpose) → Common (λ n. PurposeIsOver n p)
over_purpose (Goal q) = over_quad q
over_purpose (Flow ls) = each (λ n l. LinIsOver n l) over_lin ls

over_block : (b : BlockPart) → Common (λ n. BlockIsOver n b)
over_block b =
    weaker (λ n. PurposeIsOver n b.purpose × All (λ r. LinIsOver n r.row) b.rules) (λ n. BlockIsOver n b)
    (λ n h. record { purpose = h.0; rules = h.1 })
    (both (λ n. PurposeIsOver n b.purpose) (λ n. All (λ r. LinIsOver n r.row) b.rules) (over_purpose b.purpose) (over_rules b.rules))

over_leader : (l : Option LeaderPart) → Common (λ n. LeaderIsOver n l)
over_leader None = always (λ n. Unit {0}) (λ n. tt)
over_leader (Some l) = both (λ n. LinIsOver n l.goal) (λ n. All (λ r. LinIsOver n r.row) l.rules) (over_lin l.goal) (over_rules l.rules)

pub each_problem_is_whole : EachProblemIsWhole
each_problem_is_whole pr =
    let c = both (λ n. LeaderIsOver n pr.leader) (λ n. All (BlockIsOver n) pr.blocks) (over_leader pr.leader) (each (λ n b. BlockIsOver n b) over_block pr.blocks) in
    let h = subst (λ n. LeaderIsOver n pr.leader × All (BlockIsOver n) pr.blocks) (by_ring (c.n ∷ []) (lit (pos 1) ⊗ var 0) (var 0) refl) (c.all (pos 1)) in
    (c.n, record { positive = c.positive; leads = h.0; blocks = h.1 })
