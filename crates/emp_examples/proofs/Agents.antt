-- The examples of agents.
use Rattle.std.proofs.Common.{◌≡◌, ℤ, pos, negsuc, neg_ℤ, ◌+ℤ◌, ◌-ℤ◌, ◌*ℤ◌, ◌<ℤ◌, ◌≤ℤ◌, true, false, [], ◌∷◌, arith, refl, sym}
use Rattle.std.proofs.lemmas.Int.{ints}
use Rattle.emp_algebra.proofs.Laws.{mul_nonneg, mul_pos}
use Rattle.emp_algebra.proofs.Order.{square_nonneg}
use Rattle.emp_algebra.proofs.Ring.{var, lit, neg, ◌⊕◌, ◌⊖◌, ◌⊗◌, by_ring}
use Rattle.emp_algebra.specs.Vector.{cell}
use Rattle.emp_num.specs.Ratio.{SameRatio}
use Rattle.emp_num.specs.Point.{Point, coordinate}
use Rattle.emp_ast.specs.declared.model.Sense.{Sense}
use Rattle.emp_ast.specs.declared.model.Sense.TheVariants.{Min, Max}
use Rattle.emp_ast.specs.declared.model.Equation.{Equation}
use Rattle.emp_ast.specs.Meets.{MeetsEquation, MeetsBounds}
use Rattle.emp_ast.specs.Parties.{block, owns, defines, is_constraint}
use Rattle.emp_ast.specs.Rivals.{Fits, IsRival}
use Rattle.emp_examples.specs.Small.{free, whole_point}
use Rattle.emp_examples.specs.Rivals.{ExamplesOfAgents, bowl_equation, hill_equation, curved, curved_by}
use Rattle.emp_examples.proofs.Short.{each_of_one, each_of_two, below_two, le_by, below_not_above}

-- an equation that defines c makes each point that meets it a rival of each
pub curved_rival : (c : Equation) (sense : Sense) → defines (curved c) (curved_by sense) (block 0) 0 ≡ true → is_constraint (curved c) (curved_by sense) (block 0) 0 ≡ false → (p r : Point) → Fits (curved c) r → MeetsEquation r c → IsRival (curved c) (curved_by sense) (block 0) p r
curved_rival c sense is none p r fits d = record {
  deviation = record {
    fits = fits;
    others = below_two (λ v. owns (curved c) (curved_by sense) (block 0) v ≡ false → SameRatio (coordinate r v) (coordinate p v)) (λ own. cc) (λ own. cc);
    bounds = each_of_two (λ v x. owns (curved c) (curved_by sense) (block 0) v ≡ true → MeetsBounds r v x) free free (λ own. (tt, tt)) (λ own. (tt, tt));
    definition = each_of_one (λ e q. defines (curved c) (curved_by sense) (block 0) e ≡ true → MeetsEquation r q) c (λ h. d);
  };
  constraints = each_of_one (λ e q. is_constraint (curved c) (curved_by sense) (block 0) e ≡ true → MeetsEquation r q) c (λ h. cc);
}

bowl_rival : (sense : Sense) (p r : Point) → Fits (curved bowl_equation) r → MeetsEquation r bowl_equation → IsRival (curved bowl_equation) (curved_by sense) (block 0) p r
bowl_rival sense p r fits d = curved_rival bowl_equation sense refl refl p r fits d

hill_rival : (p r : Point) → Fits (curved hill_equation) r → MeetsEquation r hill_equation → IsRival (curved hill_equation) (curved_by Max) (block 0) p r
hill_rival p r fits d = curved_rival hill_equation Max refl refl p r fits d

-- the point c over d, x over d with c = x*x - 2*x has c at least -1
bowl_bottom : (c x d : ℤ) → pos 0 <ℤ d → c *ℤ (d *ℤ d *ℤ (pos 1 *ℤ d)) ≡ (x *ℤ x *ℤ (pos 1 *ℤ d) +ℤ neg_ℤ (pos 2 *ℤ x) *ℤ (d *ℤ d)) *ℤ d → (negsuc 0 *ℤ d) ≤ℤ (c *ℤ pos 1)
bowl_bottom c x d up h =
    le_by (pos 0) (d *ℤ d *ℤ ((x -ℤ d) *ℤ (x -ℤ d))) (d *ℤ d *ℤ d) (mul_pos (d *ℤ d) d (mul_pos d d up up) up) h
    (by_ring (c ∷ d ∷ []) (var 0 ⊗ lit (pos 1) ⊗ (var 1 ⊗ var 1 ⊗ var 1)) (var 0 ⊗ (var 1 ⊗ var 1 ⊗ (lit (pos 1) ⊗ var 1)) ⊕ lit (pos 0)) refl)
    (by_ring (x ∷ d ∷ [])
    ((var 0 ⊗ var 0 ⊗ (lit (pos 1) ⊗ var 1) ⊕ neg (lit (pos 2) ⊗ var 0) ⊗ (var 1 ⊗ var 1)) ⊗ var 1 ⊕ lit (pos 0))
    (lit (negsuc 0) ⊗ var 1 ⊗ (var 1 ⊗ var 1 ⊗ var 1) ⊕ var 1 ⊗ var 1 ⊗ ((var 0 ⊖ var 1) ⊗ (var 0 ⊖ var 1)))
    refl)
    (mul_nonneg (d *ℤ d) ((x -ℤ d) *ℤ (x -ℤ d)) (square_nonneg d) (square_nonneg (x -ℤ d)))

-- with c = 2*x - x*x it has c at most 1
hill_top : (c x d : ℤ) → pos 0 <ℤ d → c *ℤ (pos 1 *ℤ d *ℤ (d *ℤ d)) ≡ (pos 2 *ℤ x *ℤ (d *ℤ d) +ℤ neg_ℤ (x *ℤ x) *ℤ (pos 1 *ℤ d)) *ℤ d → (c *ℤ pos 1) ≤ℤ (pos 1 *ℤ d)
hill_top c x d up h =
    let s = d *ℤ d *ℤ ((x -ℤ d) *ℤ (x -ℤ d)) in
    le_by s s (d *ℤ d *ℤ d) (mul_pos (d *ℤ d) d (mul_pos d d up up) up) (sym h)
    (by_ring (x ∷ d ∷ [])
    (lit (pos 1) ⊗ var 1 ⊗ (var 1 ⊗ var 1 ⊗ var 1))
    ((lit (pos 2) ⊗ var 0 ⊗ (var 1 ⊗ var 1) ⊕ neg (var 0 ⊗ var 0) ⊗ (lit (pos 1) ⊗ var 1)) ⊗ var 1 ⊕ var 1 ⊗ var 1 ⊗ ((var 0 ⊖ var 1) ⊗ (var 0 ⊖ var 1)))
    refl)
    (by_ring (c ∷ x ∷ d ∷ [])
    (var 0 ⊗ (lit (pos 1) ⊗ var 2 ⊗ (var 2 ⊗ var 2)) ⊕ var 2 ⊗ var 2 ⊗ ((var 1 ⊖ var 2) ⊗ (var 1 ⊖ var 2)))
    (var 0 ⊗ lit (pos 1) ⊗ (var 2 ⊗ var 2 ⊗ var 2) ⊕ var 2 ⊗ var 2 ⊗ ((var 1 ⊖ var 2) ⊗ (var 1 ⊖ var 2)))
    refl)
    (mul_nonneg (d *ℤ d) ((x -ℤ d) *ℤ (x -ℤ d)) (square_nonneg d) (square_nonneg (x -ℤ d)))

pub examples_of_agents : ExamplesOfAgents
examples_of_agents = record {
  least_at_one = let p = whole_point (negsuc 0 ∷ pos 1 ∷ []) in record {
    feasible = bowl_rival Min p p refl refl;
    best = λ r h better. below_not_above (negsuc 0 *ℤ r.den) (cell r.nums 0 *ℤ pos 1) (bowl_bottom (cell r.nums 0) (cell r.nums 1) r.den r.positive (h.deviation.definition 0 bowl_equation refl refl)) better;
  };
  not_least_at_zero = λ h. h.best (whole_point (negsuc 0 ∷ pos 1 ∷ [])) (bowl_rival Min (whole_point (pos 0 ∷ pos 0 ∷ [])) (whole_point (negsuc 0 ∷ pos 1 ∷ [])) refl refl) (omega (arith, ints));
  not_off_definition = λ h. let l = h.feasible.deviation.definition 0 bowl_equation refl refl in omega (arith, ints);
  not_greatest_at_one = λ h. h.best (whole_point (pos 0 ∷ pos 0 ∷ [])) (bowl_rival Max (whole_point (negsuc 0 ∷ pos 1 ∷ [])) (whole_point (pos 0 ∷ pos 0 ∷ [])) refl refl) (omega (arith, ints));
  greatest_at_one = let p = whole_point (pos 1 ∷ pos 1 ∷ []) in record {
    feasible = hill_rival p p refl refl;
    best = λ r h better. below_not_above (cell r.nums 0 *ℤ pos 1) (pos 1 *ℤ r.den) (hill_top (cell r.nums 0) (cell r.nums 1) r.den r.positive (h.deviation.definition 0 hill_equation refl refl)) better;
  };
  not_greatest_at_zero = λ h. h.best (whole_point (pos 1 ∷ pos 1 ∷ [])) (hill_rival (whole_point (pos 0 ∷ pos 0 ∷ [])) (whole_point (pos 1 ∷ pos 1 ∷ [])) refl refl) (omega (arith, ints));
  no_block = λ h. h.best;
}
