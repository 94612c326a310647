-- What the answer says of the file.
use Rattle.std.proofs.Common.{◌≡◌, ◌≢◌, inl, inr, ℕ, zero, suc, ◌+◌, ◌<◌, ◌≤◌, ℤ, pos, neg_ℤ, ◌*ℤ◌, ◌≤ℤ◌, ◌<ℤ◌, Bool, true, false, ◌||◌, not, cond, nat_eq, nat_lt, List, [], ◌∷◌, All, length, slice_index_or, Option, Some, None, Ok, Err, arith, refl, sym, ap, ap₂, subst, subst₂, ◌∙◌}
use Rattle.std.specs.Prelude.{slice_get, filter}
use Rattle.std.proofs.lemmas.Bool.{eqb-true, lt-ltb, false≢true}
use Rattle.std.proofs.lemmas.Option.{none-some, same_Some}
use Rattle.std.proofs.lemmas.List.{get_or-map}
use Rattle.std.proofs.lemmas.List.Elements.{All-cons, All-head, All-tail}
use Rattle.emp_algebra.proofs.Order.{linear, cancel_right}
use Rattle.emp_algebra.proofs.Ring.{var, lit, neg, ◌⊗◌, by_ring}
use Rattle.emp_num.specs.FracSpec.{IsQuotient}
use Rattle.emp_num.specs.declared.frac.Frac.{Frac}
use Rattle.emp_ast.specs.declared.tree.VarId.{VarId}
use Rattle.emp_ast.specs.declared.tree.EquId.{EquId}
use Rattle.emp_ast.specs.declared.model.Sense.{Sense}
use Rattle.emp_ast.specs.declared.model.Sense.TheVariants.{Min, Max}
use Rattle.emp_ast.specs.declared.model.Model.{Model}
use Rattle.emp_ast.specs.declared.annot.Block.{Block}
use Rattle.emp_ast.specs.declared.annot.Block.TheVariants.{Agent, Vi}
use Rattle.emp_ast.specs.declared.annot.Annot.{Annot}
use Rattle.emp_ast.specs.Parties.{block, objective, block_objective, names_variable, is_defined_of}
use Rattle.emp_ast.specs.Convex.{counted, counted_by, IsConvexUpTo, IsConvex}
use Rattle.emp_form.specs.Form.{Form}
use Rattle.emp_form.specs.Partial.{second_at}
use Rattle.emp_poly.specs.Quads.{square_at, HasForm}
use Rattle.emp_poly.specs.declared.quad.Quad.{Quad}
use Rattle.emp_poly.proofs.QuadForms.{same_is, apart}
use Rattle.emp_ldl.specs.Form.{entry, entries}
use Rattle.emp_ldl.specs.Form as Fractions
use Rattle.emp_ldl.specs.Laws.{Over}
use Rattle.emp_ldl.specs.declared.squares.Curve.{Curve}
use Rattle.emp_ldl.specs.declared.squares.Curve.TheVariants as Curved
use Rattle.emp_ldl.proofs.FracRows.{semidefinite_is_whole}
use Rattle.emp_ldl.proofs.Says as Says
use Rattle.emp_agents.specs.Given.{given_form}
use Rattle.emp_agents.specs.Convex.{counted_numbers, for_objective, agent_curvature, IsAgent}
use Rattle.emp_agents.proofs.Convex as Agents
use Rattle.emp_problem.specs.declared.problem.Purpose.{Purpose}
use Rattle.emp_problem.specs.declared.problem.Purpose.TheVariants.{Goal, Flow}
use Rattle.emp_problem.specs.declared.problem.BlockPart.{BlockPart}
use Rattle.emp_problem.specs.declared.problem.AgentProblem.{AgentProblem}
use Rattle.emp_problem.specs.Left.{signed_for, goal_form}
use Rattle.emp_problem.specs.ProblemOf.{IsBlockFor, IsPurposeFor, AreBlocksFor, IsProblemOf}
use Rattle.emp_problem.specs.Class.{BlockFits, IsClassFile}
use Rattle.emp_share.specs.declared.share.ShareFault.TheVariants.{NotConvex, WideCurve, NoMemory}
use Rattle.emp_share.specs.Share.{variable_at, IsSecondBy, IsSecond, AreSeconds, FoldPasses, FoldEnds, DoubleEnds, GoalGives, PurposeGives, BlockPasses, BlockEnds}
use Rattle.emp_share.specs.Laws.{PassingTells, FaultTells}
use Rattle.emp_share.proofs.Cells.{SecondIs, rising, falling, square}
use Rattle.emp_share.proofs.Cells as Cells

-- ---- second derivatives as those of the form
twice_quotient : (f c : Frac) (z e : ℤ) → IsSecondBy true c f → IsQuotient c z e → IsQuotient f (pos 2 *ℤ z) e
twice_quotient f c z e h k =
    cancel_right (f.num *ℤ e) (pos 2 *ℤ z *ℤ f.den) c.den
    (by_ring (f.num ∷ e ∷ c.den ∷ []) (var 0 ⊗ var 1 ⊗ var 2) (var 0 ⊗ var 2 ⊗ var 1) refl
    ∙ (ap (λ y. y *ℤ e) h
    ∙ (by_ring (c.num ∷ f.den ∷ e ∷ []) (lit (pos 2) ⊗ var 0 ⊗ var 1 ⊗ var 2) (lit (pos 2) ⊗ (var 0 ⊗ var 2) ⊗ var 1) refl
    ∙ (ap (λ y. pos 2 *ℤ y *ℤ f.den) k ∙ by_ring (z ∷ c.den ∷ f.den ∷ []) (lit (pos 2) ⊗ (var 0 ⊗ var 1) ⊗ var 2) (lit (pos 2) ⊗ var 0 ⊗ var 2 ⊗ var 1) refl))))
    c.positive

second_form : (q : Quad) (g : Form) (u v : ℕ) (f : Frac) → HasForm q g → IsSecond q u v f → IsQuotient f (second_at g.square u v) g.den
second_form q g u v f has is = go (Cells.second_is q u v f is)
  where
    product : (z : ℤ) (c : Frac) → f ≡ c → second_at g.square u v ≡ z → IsQuotient c z g.den → IsQuotient f (second_at g.square u v) g.den
    product z c e k h = subst (λ (f : Frac). IsQuotient f (second_at g.square u v) g.den) (sym e) (subst (λ z. IsQuotient c z g.den) (sym k) h)

    unlike : u ≢ v → second_at g.square u v ≡ cond (nat_lt v u) (g.square v u) (g.square u v)
    unlike ne = ap (λ b. cond b (pos 2 *ℤ g.square u u) (cond (nat_lt v u) (g.square v u) (g.square u v))) (apart v u (λ e. ne (sym e)))

    go : SecondIs q u v f → IsQuotient f (second_at g.square u v) g.den
    go (rising h e) = product (g.square u v) (square_at q.square u v) e (unlike (λ s. omega (arith, h, s)) ∙ ap (λ b. cond b (g.square v u) (g.square u v)) (Cells.not_before u v (omega (arith, h)))) (has.square u v (omega (arith, h)))
    go (falling h e) = product (g.square v u) (square_at q.square v u) e (unlike (λ s. omega (arith, h, s)) ∙ ap (λ b. cond b (g.square v u) (g.square u v)) (lt-ltb v u h)) (has.square v u (omega (arith, h)))
    go (square e d) =
        subst (λ w. IsQuotient f (second_at g.square u w) g.den) e
        (subst (λ z. IsQuotient f z g.den) (sym (ap (λ b. cond b (pos 2 *ℤ g.square u u) (cond (nat_lt u u) (g.square u u) (g.square u u))) (same_is u)))
        (twice_quotient f (square_at q.square u u) (g.square u u) g.den d (has.square u u (omega arith))))

-- the sign of the objective
signed_second : (o : Option (Sense × ℕ)) (g : Form) (u v : ℕ) → second_at (signed_for o g).square u v ≡ for_objective o (second_at g.square u v)
signed_second None g u v = refl
signed_second (Some (Min, w)) g u v = refl
signed_second (Some (Max, w)) g u v = go (nat_eq v u) (nat_lt v u)
  where
    go : (b c : Bool) → cond b (pos 2 *ℤ neg_ℤ (g.square u u)) (cond c (neg_ℤ (g.square v u)) (neg_ℤ (g.square u v))) ≡ neg_ℤ (cond b (pos 2 *ℤ g.square u u) (cond c (g.square v u) (g.square u v)))
    go true c = by_ring (g.square u u ∷ []) (lit (pos 2) ⊗ neg (var 0)) (neg (lit (pos 2) ⊗ var 0)) refl
    go false true = refl
    go false false = refl

signed_den : (o : Option (Sense × ℕ)) (g : Form) → (signed_for o g).den ≡ g.den
signed_den None g = refl
signed_den (Some (Min, w)) g = refl
signed_den (Some (Max, w)) g = refl

-- ---- an agent
never : (t : ℤ) → t <ℤ pos 0 → pos 0 ≤ℤ t → ⊥
never t h k = omega (arith, linear, h, k)

module _ (m : Model) (a : Annot) (k : ℕ) (q : Quad) (agent : IsAgent m a k) (has : HasForm q (goal_form m a (block k))) where
  abbrev vs : List VarId
  vs = counted m a k

  second_is : (u v : ℕ) (f : Frac) → IsSecond q u v f → f.num *ℤ (given_form m a (block k)).den ≡ for_objective (objective m a (block k)) (second_at (given_form m a (block k)).square u v) *ℤ f.den
  second_is u v f is =
      ap (λ z. f.num *ℤ z) (sym (signed_den (objective m a (block k)) (given_form m a (block k))))
      ∙ (second_form q (goal_form m a (block k)) u v f has is ∙ ap (λ z. z *ℤ f.den) (signed_second (objective m a (block k)) (given_form m a (block k)) u v))

  number_is : (i : ℕ) → i < length vs → slice_index_or (counted_numbers m a k) i 0 ≡ variable_at vs i
  number_is i h = get_or-map (λ v. v.at) (counted m a k) i (record { at = 0 }) 0 h

  cells_over : (side n : ℕ) (cells : List Frac) → n ≤ side → AreSeconds q vs side cells → Over (entries side cells) (agent_curvature m a k) (given_form m a (block k)).den n
  cells_over side n cells l s = record {
    positive = subst (λ z. pos 0 <ℤ z) (signed_den (objective m a (block k)) (given_form m a (block k))) has.den;
    same = λ i j bi bj. second_is (variable_at vs i) (variable_at vs j) (entry side cells i j) (s.each i j (omega arith) (omega arith))
        ∙ ap₂ (λ u v. for_objective (objective m a (block k)) (second_at (given_form m a (block k)).square u v) *ℤ (entry side cells i j).den) (sym (number_is i (let w = s.within in omega arith))) (sym (number_is j (let w = s.within in omega arith)));
  }

  convex : (side n : ℕ) (cells : List Frac) → n ≤ side → AreSeconds q vs side cells → Fractions.IsSemidefinite (entries side cells) n → IsConvexUpTo m a k n
  convex side n cells l s h = (Agents.curvature_is_convex.up_to m a k n agent (let w = s.within in omega arith)).1 ((semidefinite_is_whole side cells (agent_curvature m a k) (given_form m a (block k)).den n l (cells_over side n cells l s)).0 h)

  semidefinite : (side n : ℕ) (cells : List Frac) → n ≤ side → AreSeconds q vs side cells → IsConvexUpTo m a k n → Fractions.IsSemidefinite (entries side cells) n
  semidefinite side n cells l s c = (semidefinite_is_whole side cells (agent_curvature m a k) (given_form m a (block k)).den n l (cells_over side n cells l s)).1 ((Agents.curvature_is_convex.up_to m a k n agent (let w = s.within in omega arith)).0 c)

  not_convex : (n : ℕ) → FoldEnds q vs (Curved.Not n) → (IsConvexUpTo m a k n → ⊥) × ((h : ℕ) → h < n → IsConvexUpTo m a k h)
  not_convex n f =
      let s = f.gives.seconds in
      let g = f.gives.gives in
      let says = Says.convex_says f.side f.gives.cells s.matrix (Err (Curved.Not n)) g in (
        λ c. let d = semidefinite f.side n f.gives.cells (let e = g.is in let b = g.below in omega arith) s c in never (Fractions.form_at (entries f.side f.gives.cells) says.0.den says.0.at).top says.0.below (d.nowhere says.0.den says.0.at says.0.positive says.0.fits),
        λ h l. convex f.side h f.gives.cells (let e = g.is in let b = g.below in omega arith) s (says.1 h l),
      )

  wide_fold : (n : ℕ) → FoldEnds q vs (Curved.Wide n) → (h : ℕ) → h < n → IsConvexUpTo m a k h
  wide_fold n f h l =
      let g = f.gives.gives in
      convex f.side h f.gives.cells (let e = g.is in let b = g.below in omega arith) f.gives.seconds (Says.convex_says f.side f.gives.cells f.gives.seconds.matrix (Err (Curved.Wide n)) g h l)

  wide_double : (n : ℕ) → DoubleEnds q vs n → (h : ℕ) → h < n → IsConvexUpTo m a k h
  wide_double n d h l =
      let f = d.before.gives in
      let s = (Says.convex_says d.row f.cells f.seconds.matrix (Ok d.before.squares) f.gives).1.semidefinite in
      convex d.row h f.cells (let e = d.is in omega arith) f.seconds (record { nowhere = λ e xs p b. s.nowhere e xs p (let i = d.is in omega arith); lower = λ e xs p b. s.lower e xs p (let i = d.is in omega arith) })

  passes : FoldPasses q vs (length vs) → IsConvex m a k
  passes f =
      let s = (Says.convex_says (length vs) f.gives.cells f.gives.seconds.matrix (Ok f.squares) f.gives.gives).1.semidefinite in
      (Agents.curvature_is_convex.whole m a k agent).1 ((semidefinite_is_whole (length vs) f.gives.cells (agent_curvature m a k) (given_form m a (block k)).den (length vs) (omega arith) (cells_over (length vs) (length vs) f.gives.cells (omega arith) f.gives.seconds)).0 s)

-- ---- the block of a part
record PartIs (m : Model) (a : Annot) (k i : ℕ) (bs : List Block) (p : BlockPart) : Type 0 where
  b : Block
  there : slice_get bs i ≡ Some b
  below : i < length bs
  is : IsBlockFor m a (k + i) b p

part_is : (m : Model) (a : Annot) (k i : ℕ) (bs : List Block) (ps : List BlockPart) (p : BlockPart) → AreBlocksFor m a k bs ps → slice_get ps i ≡ Some p → PartIs m a k i bs p
part_is m a k i [] [] p h s = absurd (none-some p s)
part_is m a k i [] (c ∷ ps) p h s = absurd h
part_is m a k i (b ∷ bs) [] p h s = absurd h
part_is m a k zero (b ∷ bs) (c ∷ ps) p h s = record {
  b = b;
  there = refl;
  below = omega arith;
  is = subst₂ (λ j c. IsBlockFor m a j b c) (omega arith) (same_Some c p s) h.0;
}
part_is m a k (suc i) (b ∷ bs) (c ∷ ps) p h s =
    let r = part_is m a (suc k) i bs ps p h.1 s in
    record { b = r.b; there = r.there; below = (let l = r.below in omega arith); is = subst (λ j. IsBlockFor m a j r.b p) (omega arith) r.is }

-- ---- the agent of a block
names_kept : (test : VarId → Bool) (us : List VarId) (v : ℕ) → names_variable (filter test us) v ≡ true → names_variable us v ≡ true
names_kept test [] v h = h
names_kept test (x ∷ us) v h = go (test x) h (λ t. names_kept test us v t)
  where
    go : (b : Bool) → names_variable (cond b (x ∷ filter test us) (filter test us)) v ≡ true → (names_variable (filter test us) v ≡ true → names_variable us v ≡ true) → names_variable (x ∷ us) v ≡ true
    go true t rest = either (nat_eq x.at v) t
      where
        either : (b : Bool) → b || names_variable (filter test us) v ≡ true → b || names_variable us v ≡ true
        either true t = refl
        either false t = rest t
    go false t rest = later (nat_eq x.at v) (rest t)
      where
        later : (b : Bool) → names_variable us v ≡ true → b || names_variable us v ≡ true
        later true t = refl
        later false t = t

named_fits : (n : ℕ) (us : List VarId) (v : ℕ) → All (λ v. v.at < n) us → names_variable us v ≡ true → v < n
named_fits n [] v h e = absurd (false≢true e)
named_fits n (x ∷ us) v h e = go (nat_eq x.at v) refl e (λ t. named_fits n us v (All-tail (λ v. v.at < n) x us h) t)
  where
    go : (b : Bool) → nat_eq x.at v ≡ b → b || names_variable us v ≡ true → (names_variable us v ≡ true → v < n) → v < n
    go true q t rest = subst (λ i. i < n) (eqb-true x.at v q) (All-head (λ v. v.at < n) x us h)
    go false q t rest = rest t

one_of : {X : Type 0} (P : X → Type 0) (xs : List X) (i : ℕ) (x : X) → All P xs → slice_get xs i ≡ Some x → P x
one_of P [] i x h e = absurd (none-some x e)
one_of P (y ∷ xs) zero x h e = subst P (same_Some y x e) (All-head P y xs h)
one_of P (y ∷ xs) (suc i) x h e = one_of P xs i x (All-tail P y xs h) e

agent_is : (m : Model) (a : Annot) (k : ℕ) (sense : Sense) (o : VarId) (vars : List VarId) (equs : List EquId) → IsClassFile m a → slice_get a.blocks k ≡ Some (Agent sense o vars equs) → IsAgent m a k
agent_is m a k sense o vars equs class there = record {
  goal = (sense, o.at);
  is = ap block_objective there;
  polynomials = λ e q s d. class.expanded e q s;
  within = λ v n. named_fits (length m.variables) (o ∷ vars) v (All-cons (λ v. v.at < length m.variables) o vars fits.0 fits.1)
      (names_kept (λ v. not (is_defined_of m a (block k) v.at)) (o ∷ vars) v (subst (λ us. names_variable us v ≡ true) (ap (counted_by m a k) there) n));
}
  where
    fits : BlockFits (length m.variables) (length m.equations) (Agent sense o vars equs)
    fits = one_of (BlockFits (length m.variables) (length m.equations)) a.blocks k (Agent sense o vars equs) class.fits.blocks there

-- ---- the fault
abbrev EndSays : Model → Annot → ℕ → Curve → Type 0
EndSays m a k (Curved.Not n) = (IsConvexUpTo m a k n → ⊥) × ((h : ℕ) → h < n → IsConvexUpTo m a k h)
EndSays m a k (Curved.Wide n) = (h : ℕ) → h < n → IsConvexUpTo m a k h
EndSays m a k Curved.NoMemory = Unit {0}

goal_says : (m : Model) (a : Annot) (k : ℕ) (q : Quad) (end : Curve) → IsAgent m a k → HasForm q (goal_form m a (block k)) → GoalGives q (counted m a k) (Err end) → EndSays m a k end
goal_says m a k q (Curved.Not n) agent has g = not_convex m a k q agent has n g
goal_says m a k q (Curved.Wide n) agent has (inl g) = wide_fold m a k q agent has n g
goal_says m a k q (Curved.Wide n) agent has (inr g) = wide_double m a k q agent has n g
goal_says m a k q Curved.NoMemory agent has g = tt

purpose_says : (m : Model) (a : Annot) (k : ℕ) (b : Block) (own : List VarId) (p : Purpose) (end : Curve) → IsClassFile m a → slice_get a.blocks k ≡ Some b → own ≡ counted m a k → IsPurposeFor m a k b p → PurposeGives p own (Err end) → EndSays m a k end
purpose_says m a k b own (Flow ls) end class there e is g = absurd g
purpose_says m a k (Agent sense o vars equs) own (Goal q) end class there e is g = goal_says m a k q end (agent_is m a k sense o vars equs class there) is (subst (λ us. GoalGives q us (Err end)) e g)
purpose_says m a k (Vi zeros pairs equs) own (Goal q) end class there e is g = absurd is

block_says : (m : Model) (a : Annot) (pr : AgentProblem) (number : ℕ) (end : Curve) → IsProblemOf m a pr → IsClassFile m a → (x : BlockEnds pr number end) → EndSays m a x.at end × (x.at < length a.blocks)
block_says m a pr number end h class x =
    let r = part_is m a 0 x.at a.blocks pr.blocks x.part h.blocks x.there in
    let is : IsBlockFor m a x.at r.b x.part = subst (λ j. IsBlockFor m a j r.b x.part) (omega arith) r.is in
    (purpose_says m a x.at r.b x.part.own x.part.purpose end class r.there is.own is.purpose x.own, r.below)

pub fault_tells : FaultTells
fault_tells m a pr h class (NotConvex b k) x =
    let s = block_says m a pr b (Curved.Not k) h class x in
    record { least = record { at = x.at; is = x.is; below = s.1; fewer = s.0.1 }; not = s.0.0 }
fault_tells m a pr h class (WideCurve b k) x =
    let s = block_says m a pr b (Curved.Wide k) h class x in
    record { at = x.at; is = x.is; below = s.1; fewer = s.0 }
fault_tells m a pr h class NoMemory x = tt

-- ---- where all pass
part_there : (m : Model) (a : Annot) (k i : ℕ) (bs : List Block) (ps : List BlockPart) → AreBlocksFor m a k bs ps → i < length bs → (p : BlockPart) × (slice_get ps i ≡ Some p)
part_there m a k i [] ps h l = absurd (omega (arith, l))
part_there m a k i (b ∷ bs) [] h l = absurd h
part_there m a k zero (b ∷ bs) (c ∷ ps) h l = (c, refl)
part_there m a k (suc i) (b ∷ bs) (c ∷ ps) h l = part_there m a (suc k) i bs ps h.1 (omega (arith, l))

purpose_passes : (m : Model) (a : Annot) (k : ℕ) (b : Block) (own : List VarId) (p : Purpose) → IsClassFile m a → slice_get a.blocks k ≡ Some b → own ≡ counted m a k → IsPurposeFor m a k b p → PurposeGives p own (Ok tt) → IsConvex m a k
purpose_passes m a k (Agent sense o vars equs) own (Goal q) class there e is g = passes m a k q (agent_is m a k sense o vars equs class there) is (subst (λ us. FoldPasses q us (length us)) e g)
purpose_passes m a k (Agent sense o vars equs) own (Flow ls) class there e is g = absurd is
purpose_passes m a k (Vi zeros pairs equs) own p class there e is g = λ s w h. absurd (none-some (s, w) (sym (ap block_objective there) ∙ h))

pub passing_tells : PassingTells
passing_tells m a pr h class all k l =
    let c = part_there m a 0 k a.blocks pr.blocks h.blocks l in
    let r = part_is m a 0 k a.blocks pr.blocks c.0 h.blocks c.1 in
    let is : IsBlockFor m a k r.b c.0 = subst (λ j. IsBlockFor m a j r.b c.0) (omega arith) r.is in
    purpose_passes m a k r.b c.0.own c.0.purpose class r.there is.own is.purpose (one_of BlockPasses pr.blocks k c.0 all c.1)
