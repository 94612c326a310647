-- Points of a file that meet the definitions and have the same coordinates of the variables that are left are one point.
use Rattle.std.proofs.Common.{◌≡◌, ◌⊎◌, inl, inr, ℕ, ◌<◌, ◌≤◌, ℤ, pos, ◌*ℤ◌, ◌<ℤ◌, true, false, List, length, Some, arith, sym, ap, subst, ◌∙◌}
use Rattle.std.specs.Prelude.{◌&&◌}
use Rattle.std.proofs.lemmas.Bool.{and_parts, or_cases, cases_Bool, cases_lt}
use Rattle.std.proofs.lemmas.List.{get_or_past}
use lib.IntN.{zero-*ℤ}
use Rattle.emp_algebra.specs.Vector.{cell}
use Rattle.emp_algebra.proofs.Laws.{mul_pos}
use Rattle.emp_num.specs.Ratio.{ratio, SameRatio}
use Rattle.emp_num.specs.Point.{Point, coordinate}
use Rattle.emp_num.specs.SamePoint.{SamePoint}
use Rattle.emp_num.proofs.SamePoints.{cross_on}
use Rattle.emp_systems.specs.Same.{AreSame}
use Rattle.emp_systems.specs.Steps.{value_squared}
use Rattle.emp_ast.specs.declared.model.Sense.{Sense}
use Rattle.emp_ast.specs.declared.model.Model.{Model}
use Rattle.emp_ast.specs.declared.annot.Annot.{Annot}
use Rattle.emp_ast.specs.Meets.{MeetsEquation}
use Rattle.emp_ast.specs.Parties.{Party, leader, block, objective, is_defined, is_defined_of, some_block_defines, EachDefinition}
use Rattle.emp_ast.specs.Rivals.{Fits, MeetsDefinitions}
use Rattle.emp_left.specs.Left.{quadratic_left}
use Rattle.emp_problem.specs.Left.{left, place, goal_form}
use Rattle.emp_problem.specs.Class.{IsClassFile}
use Rattle.emp_meaning.specs.Laws.{left_nums}
use Rattle.emp_meaning.specs.Ties.{left_at, IsParty, signed_ratio}
use Rattle.emp_meaning.proofs.Move.{left_cell, left_past}
use Rattle.emp_meaning.proofs.Deviations.{signed_above, signed_turned, value_level}
use Rattle.emp_meaning.proofs.Filling.{quadratic_of, goal_den}
use Rattle.emp_meaning.proofs.Places.{places, defined_objective, some_defines}
use Rattle.emp_meaning.proofs.Values.{values}

-- a party whose defined objective the variable is
pub record Defining (m : Model) (a : Annot) (v : ℕ) : Type 0 where
  pub by : Party
  pub party : IsParty a by
  pub defines : is_defined_of m a by v ≡ true

pub defining : (m : Model) (a : Annot) (v : ℕ) → is_defined m a v ≡ true → Defining m a v
defining m a v h = go (or_cases (some_block_defines m a v (length a.blocks)) (a.bilevel && is_defined_of m a leader v) h)
  where
    go : (some_block_defines m a v (length a.blocks) ≡ true) ⊎ (a.bilevel && is_defined_of m a leader v ≡ true) → Defining m a v
    go (inl s) = let b = some_defines m a v (length a.blocks) s in record { by = block b.number; party = b.below; defines = b.is }
    go (inr s) = let parts = and_parts a.bilevel (is_defined_of m a leader v) s in record { by = leader; party = parts.0; defines = parts.1 }

past_both : (xs ys : List ℤ) (d e : ℤ) (k : ℕ) → length xs ≤ k → length ys ≤ k → cell xs k *ℤ e ≡ cell ys k *ℤ d
past_both xs ys d e k h l =
    ap (λ z. z *ℤ e) (get_or_past xs k (pos 0) h) ∙ (zero-*ℤ e ∙ (sym (zero-*ℤ d) ∙ ap (λ z. z *ℤ d) (sym (get_or_past ys k (pos 0) l))))

module _ (m : Model) (a : Annot) (class : IsClassFile m a) (p q : Point) (fits : Fits m p) (others : Fits m q) (def : MeetsDefinitions m a p) (defq : MeetsDefinitions m a q) (h : (i : ℕ) → i < length (left m a) → SameRatio (coordinate p (left_at m a i)) (coordinate q (left_at m a i))) where
  same_left : AreSame p.den (left_nums m a p) q.den (left_nums m a q)
  same_left i = go (cases_lt i (length (left m a)))
    where
      go : (i < length (left m a)) ⊎ (length (left m a) ≤ i) → cell (left_nums m a p) i *ℤ q.den ≡ cell (left_nums m a q) i *ℤ p.den
      go (inl l) = ap (λ z. z *ℤ q.den) (left_cell m a p i l) ∙ (h i l ∙ ap (λ z. z *ℤ p.den) (sym (left_cell m a q i l)))
      go (inr l) = ap (λ z. z *ℤ q.den) (left_past m a p i l) ∙ (zero-*ℤ q.den ∙ (sym (zero-*ℤ p.den) ∙ ap (λ z. z *ℤ p.den) (sym (left_past m a q i l))))

  meeting : (r : Point) → MeetsDefinitions m a r → (k : Party) → IsParty a k → EachDefinition m a k (λ e c. MeetsEquation r c)
  meeting r d leader party = d.leads party
  meeting r d (block k) party = d.blocks k party

  same_given : (k : Party) (s : Sense) (v : ℕ) → IsParty a k → objective m a k ≡ Some (s, v) → SameRatio (coordinate p v) (coordinate q v)
  same_given k s v party o =
      let n = (goal_form m a k).den in
      let above = goal_den m a k class in
      let g = quadratic_left (left m a) (goal_form m a k) in
      let quad = quadratic_of (left m a) (goal_form m a k) in
      let x = coordinate p v in
      let y = coordinate q v in
      let here = ratio (value_squared g p.den (left_nums m a p)) (n *ℤ (p.den *ℤ p.den)) in
      let there = ratio (value_squared g q.den (left_nums m a q)) (n *ℤ (q.den *ℤ q.den)) in
      let here_above : pos 0 <ℤ here.bottom = mul_pos n (p.den *ℤ p.den) above (mul_pos p.den p.den p.positive p.positive) in
      let there_above : pos 0 <ℤ there.bottom = mul_pos n (q.den *ℤ q.den) above (mul_pos q.den q.den q.positive q.positive) in
      let one : SameRatio (signed_ratio s x) here = ((values n m a class above).given k s v g p party o quad fits).0 (meeting p def k party) in
      let two : SameRatio (signed_ratio s y) there = ((values n m a class above).given k s v g q party o quad others).0 (meeting q defq k party) in
      let level : SameRatio here there = value_level n g p.den (left_nums m a p) q.den (left_nums m a q) same_left in
      let sx = signed_ratio s x in
      let on : SameRatio sx there = cross_on sx.top sx.bottom here.top here.bottom there.top there.bottom here_above one level in
      let first : SameRatio (signed_ratio s there) x = signed_turned s there x (sym on) in
      let second : SameRatio (signed_ratio s there) y = signed_turned s there y (sym two) in
      let t = signed_ratio s there in
      cross_on x.top x.bottom t.top t.bottom y.top y.bottom (signed_above s there there_above) (sym first) second

  same_at : (v : ℕ) → v < length m.variables → SameRatio (coordinate p v) (coordinate q v)
  same_at v l = go (cases_Bool (is_defined m a v))
    where
      go : (is_defined m a v ≡ true) ⊎ (is_defined m a v ≡ false) → SameRatio (coordinate p v) (coordinate q v)
      go (inl s) =
          let k = defining m a v s in
          let o = defined_objective m a k.by v k.defines in
          same_given k.by o.goal.0 v k.party (o.is ∙ ap (λ w. Some (o.goal.0, w)) o.same)
      go (inr s) =
          let at = (places m a class).placed v l s in
          subst (λ u. SameRatio (coordinate p u) (coordinate q u)) at.1 (h (place m a v) at.0)

  pub one_point : SamePoint p q
  one_point = record { count = fits ∙ sym others; same = λ v. go v (cases_lt v (length m.variables)) }
    where
      go : (v : ℕ) → (v < length m.variables) ⊎ (length m.variables ≤ v) → SameRatio (coordinate p v) (coordinate q v)
      go v (inl l) = same_at v l
      go v (inr l) = past_both p.nums q.nums p.den q.den v (omega (arith, fits)) (omega (arith, others))
