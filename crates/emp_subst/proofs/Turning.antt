-- The values of defined objectives, by their parties.
use Rattle.std.proofs.Common.{◌≡◌, inl, inr, ℕ, zero, suc, ◌+◌, ◌<◌, ◌≤◌, Bool, true, false, ◌&&◌, nat_eq, List, [], ◌∷◌, ◌++◌, length, get_or, Option, Some, None, length-append, arith, refl, sym, ap, subst, ◌∙◌}
use Rattle.std.specs.Prelude.{slice_get, Result, Ok, Err}
use Rattle.std.specs.List.{list_any}
use Rattle.std.proofs.lemmas.Bool.{false≢true, eqb-true, and_parts, or_left, or_right, and_from}
use Rattle.std.proofs.lemmas.Option.{same_Some, slice_get_within, slice_get-get_or}
use Rattle.emp_num.specs.declared.frac.Frac.{Frac}
use Rattle.emp_ast.specs.declared.tree.VarId.{VarId}
use Rattle.emp_ast.specs.declared.model.Sense.{Sense}
use Rattle.emp_ast.specs.declared.model.Model.{Model}
use Rattle.emp_ast.specs.declared.annot.Block.{Block}
use Rattle.emp_ast.specs.declared.annot.Block.TheVariants.{Agent, Vi}
use Rattle.emp_ast.specs.declared.annot.Annot.{Annot}
use Rattle.emp_ast.specs.Parties.{Party, leader, block, objective, block_objective, is_defined, is_defined_of, is_defined_by, some_block_defines, owns, block_owns, defines, equations}
use Rattle.emp_form.specs.Calls.{Formula, given, Gives, HasWideCall}
use Rattle.emp_poly.specs.Written.{entry, linear_from, square_from, written_value}
use Rattle.emp_poly.specs.declared.quad.Quad.{Quad}
use Rattle.emp_poly.specs.declared.quad.Lin.{Lin}
use Rattle.emp_owner.proofs.Lists.{each_pushed}
use Rattle.emp_problem.specs.declared.problem.Purpose.{Purpose}
use Rattle.emp_problem.specs.declared.problem.Purpose.TheVariants.{Goal, Flow}
use Rattle.emp_problem.specs.declared.problem.BlockPart.{BlockPart}
use Rattle.emp_problem.specs.declared.problem.LeaderPart.{LeaderPart}
use Rattle.emp_problem.specs.declared.problem.AgentProblem.{AgentProblem}
use Rattle.emp_problem.specs.ProblemOf.{IsBlockFor, IsPurposeFor, AreBlocksFor, LeadsFor, IsProblemOf}
use Rattle.emp_problem.specs.Class.{IsClassFile}
use Rattle.emp_subst.specs.declared.fault.FillFault.{FillFault}
use Rattle.emp_subst.specs.declared.fault.FillFault.TheVariants.{Wide, NoMemory}
use Rattle.emp_subst.specs.Fill.{IsBlockFold, IsLeaderFold, IsFold}
use Rattle.emp_subst.specs.Filling.{IsTurned, TurnsFold, TurnedGives, Solves, PartyFold, IsValue, ValueGives, AreValues, ValuesGive}
use Rattle.emp_subst.proofs.Defined.{some_defines}
use Rattle.emp_subst.proofs.Owners.{ObjectiveOf, objective_of, one_block, not_leader, objective_fits}

-- ---- what is folded
same_goal : (p : Purpose) (q r : Quad) → p ≡ Goal q → p ≡ Goal r → q ≡ r
same_goal (Goal x) q r h k = cc
same_goal (Flow x) q r h k = cc

pub turns_goal : (s : Sense) (p : Purpose) (q r : Quad) (xs : List Frac) (x y : Frac) → p ≡ Goal q → p ≡ Goal r → Gives (written_value r xs) x × (HasWideCall (written_value r xs) → ⊥) → IsTurned s x y → TurnsFold s (written_value q xs) y
turns_goal s p q r xs x y h k g t = subst (λ z. TurnsFold s (written_value z xs) y) (same_goal p r q k h) (record { number = x; gives = g.0; narrow = g.1; turned = t })

pub wide_goal : (p : Purpose) (q r : Quad) (xs : List Frac) → p ≡ Goal q → p ≡ Goal r → HasWideCall (written_value r xs) → HasWideCall (written_value q xs)
wide_goal p q r xs h k w = subst (λ z. HasWideCall (written_value z xs)) (same_goal p r q k h) w

lin_fold : (q : Quad) (l : Lin) (xs : List Frac) → q.constant ≡ l.constant → q.linear ≡ l.linear → q.square ≡ [] → written_value q xs ≡ linear_from (given l.constant) l.linear xs
lin_fold q l xs c k s =
    ap (λ ts. square_from (linear_from (given q.constant) q.linear xs) ts xs) s ∙ (ap (λ ts. linear_from (given q.constant) ts xs) k ∙ ap (λ (y : Frac). linear_from (given y) l.linear xs) c)

pub turns_lin : (s : Sense) (q : Quad) (l : Lin) (xs : List Frac) (x y : Frac) → q.constant ≡ l.constant → q.linear ≡ l.linear → q.square ≡ [] → Gives (written_value q xs) x × (HasWideCall (written_value q xs) → ⊥) → IsTurned s x y → TurnsFold s (linear_from (given l.constant) l.linear xs) y
turns_lin s q l xs x y c k e g t = subst (λ f. TurnsFold s f y) (lin_fold q l xs c k e) (record { number = x; gives = g.0; narrow = g.1; turned = t })

pub wide_lin : (q : Quad) (l : Lin) (xs : List Frac) → q.constant ≡ l.constant → q.linear ≡ l.linear → q.square ≡ [] → HasWideCall (written_value q xs) → HasWideCall (linear_from (given l.constant) l.linear xs)
wide_lin q l xs c k e w = subst (λ f. HasWideCall f) (lin_fold q l xs c k e) w

-- ---- the parts of the problem
parts_count : (m : Model) (a : Annot) (k : ℕ) (bs : List Block) (ps : List BlockPart) → AreBlocksFor m a k bs ps → length ps ≡ length bs
parts_count m a k [] [] h = refl
parts_count m a k [] (p ∷ ps) h = absurd h
parts_count m a k (b ∷ bs) [] h = absurd h
parts_count m a k (b ∷ bs) (p ∷ ps) h = ap suc (parts_count m a (suc k) bs ps h.1)

pub part_count : (m : Model) (a : Annot) (pr : AgentProblem) → IsProblemOf m a pr → length pr.blocks ≡ length a.blocks
part_count m a pr h = parts_count m a 0 a.blocks pr.blocks h.blocks

part_at : (m : Model) (a : Annot) (k : ℕ) (bs : List Block) (ps : List BlockPart) (i : ℕ) (b : Block) (p : BlockPart) → AreBlocksFor m a k bs ps → slice_get bs i ≡ Some b → slice_get ps i ≡ Some p → IsBlockFor m a (k + i) b p
part_at m a k [] [] i b p h at is = cc
part_at m a k [] (q ∷ ps) i b p h at is = absurd h
part_at m a k (c ∷ bs) [] i b p h at is = absurd h
part_at m a k (c ∷ bs) (q ∷ ps) zero b p h at is =
    let e : k + 0 ≡ k = omega arith in
    rw e (subst (λ (y : Block). IsBlockFor m a k y p) (same_Some c b at) (subst (λ (y : BlockPart). IsBlockFor m a k c y) (same_Some q p is) h.0))
part_at m a k (c ∷ bs) (q ∷ ps) (suc i) b p h at is =
    let e : k + suc i ≡ suc k + i = omega arith in rw e (part_at m a (suc k) bs ps i b p h.1 at is)

pub block_at : (m : Model) (a : Annot) (pr : AgentProblem) (i : ℕ) (b : Block) (p : BlockPart) → IsProblemOf m a pr → slice_get a.blocks i ≡ Some b → slice_get pr.blocks i ≡ Some p → IsBlockFor m a i b p
block_at m a pr i b p h at is = let e : 0 + i ≡ i = omega arith in subst (λ n. IsBlockFor m a n b p) e (part_at m a 0 a.blocks pr.blocks i b p h.blocks at is)

-- an agent has a polynomial
purpose_goal : (m : Model) (a : Annot) (k : ℕ) (b : Block) (p : Purpose) (w : Sense × ℕ) → block_objective (Some b) ≡ Some w → IsPurposeFor m a k b p → (q : Quad) × (p ≡ Goal q)
purpose_goal m a k (Agent s v vars equs) (Goal q) w is h = (q, refl)
purpose_goal m a k (Agent s v vars equs) (Flow ls) w is h = absurd h
purpose_goal m a k (Vi zeros pairs equs) p w is h = cc

pub has_goal : (m : Model) (a : Annot) (pr : AgentProblem) (k v : ℕ) (s : Sense) (p : BlockPart) → IsProblemOf m a pr → objective m a (block k) ≡ Some (s, v) → slice_get pr.blocks k ≡ Some p → (q : Quad) × (p.purpose ≡ Goal q)
has_goal m a pr k v s p h is at =
    let o : ObjectiveOf a k v = objective_of m a k v s is in
    purpose_goal m a k o.block p.purpose (s, v) (ap block_objective (sym o.is) ∙ is) (block_at m a pr k o.block p h o.is at).purpose

-- ---- one party defines it
pub defined_objective : (m : Model) (a : Annot) (p : Party) (v : ℕ) → is_defined_of m a p v ≡ true → (s : Sense) × (objective m a p ≡ Some (s, v))
defined_objective m a p v h = go (objective m a p) refl h
  where
    go : (o : Option (Sense × ℕ)) → objective m a p ≡ o → is_defined_by m a p v o ≡ true → (s : Sense) × (objective m a p ≡ Some (s, v))
    go None is e = absurd (false≢true e)
    go (Some w) is e = (w.0, is ∙ ap (λ n. Some (w.0, n)) (eqb-true w.1 v (and_parts (nat_eq w.1 v) (list_any (λ e. defines m a p e.at) (equations m a p)) e).0))

pub objective_owned : (m : Model) (a : Annot) (k v : ℕ) (s : Sense) → objective m a (block k) ≡ Some (s, v) → owns m a (block k) v ≡ true
objective_owned m a k v s is = let o = objective_of m a k v s is in ap (λ b. block_owns b v) o.is ∙ o.named

leads_bilevel : (m : Model) (a : Annot) (b : Bool) (o : Option LeaderPart) (p : LeaderPart) → LeadsFor m a b o → o ≡ Some p → b ≡ true
leads_bilevel m a true o p h e = refl
leads_bilevel m a false (Some q) p h e = absurd h
leads_bilevel m a false None p h e = cc

pub led : (m : Model) (a : Annot) (pr : AgentProblem) (p : LeaderPart) → IsProblemOf m a pr → pr.leader ≡ Some p → a.bilevel ≡ true
led m a pr p h e = leads_bilevel m a a.bilevel pr.leader p h.leads e

same_sense : (o : Option (Sense × ℕ)) (v : ℕ) (s t : Sense) → o ≡ Some (s, v) → o ≡ Some (t, v) → s ≡ t
same_sense o v s t h k = ap (λ w. w.0) (same_Some (s, v) (t, v) (sym h ∙ k))

pub block_defined : (m : Model) (a : Annot) (k v : ℕ) → k < length a.blocks → is_defined_of m a (block k) v ≡ true → is_defined m a v ≡ true
block_defined m a k v l h = or_left (some_block_defines m a v (length a.blocks)) (a.bilevel && is_defined_of m a leader v) (some_defines m a v k (length a.blocks) l h)

pub leader_defined_is : (m : Model) (a : Annot) (v : ℕ) → a.bilevel ≡ true → is_defined_of m a leader v ≡ true → is_defined m a v ≡ true
leader_defined_is m a v b h = or_right (some_block_defines m a v (length a.blocks)) (a.bilevel && is_defined_of m a leader v) (and_from a.bilevel (is_defined_of m a leader v) b h)

-- ---- the value of a block's objective
pub block_gives : (m : Model) (a : Annot) (pr : AgentProblem) (xs : List Frac) (v : VarId) (k : ℕ) (s : Sense) (p : BlockPart) (r : Result Frac FillFault) → IsClassFile m a → IsProblemOf m a pr → k < length a.blocks → Solves m a (block k) v.at s → slice_get pr.blocks k ≡ Some p → ((q : Quad) → p.purpose ≡ Goal q → TurnedGives s (written_value q xs) v r) → ValueGives m a pr xs v r
block_gives m a pr xs v k s p (Ok x) class problem l solves at h = record {
  left = λ e. absurd (false≢true (sym e ∙ block_defined m a k v.at l solves.1));
  fold = each;
}
  where
    inside : v.at < length m.variables
    inside = objective_fits m a k v.at s class.fits solves.0

    each : (j : Party) (t : Sense) (f : Formula) → Solves m a j v.at t → PartyFold m a pr xs v.at j f → TurnsFold t f x
    each leader t f other fold = absurd (not_leader m a k v.at s t class.kept inside solves.0 (led m a pr fold.part problem fold.is) other.0)
    each (block j) t f other fold =
        let same : k ≡ j = one_block m a k j v.at s class.kept inside solves.0 (objective_owned m a j v.at t other.0) in
        let sense : s ≡ t = same_sense (objective m a (block j)) v.at s t (subst (λ n. objective m a (block n) ≡ Some (s, v.at)) same solves.0) other.0 in
        let part : p ≡ fold.0.part = same_Some p fold.0.part (sym at ∙ (ap (λ n. slice_get pr.blocks n) (same ∙ sym fold.1) ∙ fold.0.is)) in
        subst (λ g. TurnsFold t g x) (sym fold.0.fold) (subst (λ z. TurnsFold z (written_value fold.0.goal xs) x) sense (h fold.0.goal (ap (λ (y : BlockPart). y.purpose) part ∙ fold.0.purpose)))
block_gives m a pr xs v k s p (Err (Wide w)) class problem l solves at h =
    let q = has_goal m a pr k v.at s p problem solves.0 at in
    let k0 = h q.0 q.1 in
    (k0.0, record { formula = written_value q.0 xs; fold = inl (record { number = k; defines = solves.1; part = p; is = at; goal = q.0; purpose = q.1; fold = refl }); wide = k0.1 })
block_gives m a pr xs v k s p (Err NoMemory) class problem l solves at h = tt

-- ---- the value of the leader's objective, and of a variable that is left
no_block : (m : Model) (a : Annot) (pr : AgentProblem) (xs : List Frac) (v : ℕ) (f : Formula) → IsProblemOf m a pr → some_block_defines m a v (length a.blocks) ≡ false → IsBlockFold m a pr xs v f → ⊥
no_block m a pr xs v f problem none h =
    let count = part_count m a pr problem in
    let l = slice_get_within pr.blocks h.number h.part h.is in
    false≢true (sym none ∙ some_defines m a v h.number (length a.blocks) (omega (arith, count, l)) h.defines)

pub leader_gives : (m : Model) (a : Annot) (pr : AgentProblem) (xs : List Frac) (v : VarId) (s : Sense) (p : LeaderPart) (r : Result Frac FillFault) → IsProblemOf m a pr → some_block_defines m a v.at (length a.blocks) ≡ false → a.bilevel ≡ true → Solves m a leader v.at s → pr.leader ≡ Some p → TurnedGives s (linear_from (given p.goal.constant) p.goal.linear xs) v r → ValueGives m a pr xs v r
leader_gives m a pr xs v s p (Ok x) problem none b solves at h = record {
  left = λ e. absurd (false≢true (sym e ∙ leader_defined_is m a v.at b solves.1));
  fold = each;
}
  where
    each : (j : Party) (t : Sense) (f : Formula) → Solves m a j v.at t → PartyFold m a pr xs v.at j f → TurnsFold t f x
    each leader t f other fold =
        let part : p ≡ fold.part = same_Some p fold.part (sym at ∙ fold.is) in
        let sense : s ≡ t = same_sense (objective m a leader) v.at s t solves.0 other.0 in
        subst (λ g. TurnsFold t g x) (sym fold.fold) (subst (λ (y : LeaderPart). TurnsFold t (linear_from (given y.goal.constant) y.goal.linear xs) x) part (subst (λ z. TurnsFold z (linear_from (given p.goal.constant) p.goal.linear xs) x) sense h))
    each (block j) t f other fold = absurd (no_block m a pr xs v.at f problem none fold.0)
leader_gives m a pr xs v s p (Err (Wide w)) problem none b solves at h =
    (h.0, record { formula = linear_from (given p.goal.constant) p.goal.linear xs; fold = inr (record { defines = solves.1; part = p; is = at; fold = refl }); wide = h.1 })
leader_gives m a pr xs v s p (Err NoMemory) problem none b solves at h = tt

left_value : (m : Model) (a : Annot) (pr : AgentProblem) (xs : List Frac) (v : ℕ) → IsProblemOf m a pr → some_block_defines m a v (length a.blocks) ≡ false → ((f : Formula) → IsLeaderFold m a pr xs v f → ⊥) → IsValue m a pr xs v (entry xs v)
left_value m a pr xs v problem none unled = record { left = λ e. refl; fold = each }
  where
    each : (j : Party) (t : Sense) (f : Formula) → Solves m a j v t → PartyFold m a pr xs v j f → TurnsFold t f (entry xs v)
    each leader t f other fold = absurd (unled f fold)
    each (block j) t f other fold = absurd (no_block m a pr xs v f problem none fold.0)

pub left_undefined : (m : Model) (a : Annot) (pr : AgentProblem) (xs : List Frac) (v : ℕ) (x : Frac) → IsProblemOf m a pr → some_block_defines m a v (length a.blocks) ≡ false → (a.bilevel && is_defined_of m a leader v) ≡ false → x ≡ entry xs v → IsValue m a pr xs v x
left_undefined m a pr xs v x problem none h e = subst (λ (y : Frac). IsValue m a pr xs v y) (sym e) (left_value m a pr xs v problem none (λ f k. false≢true (sym h ∙ and_from a.bilevel (is_defined_of m a leader v) (led m a pr k.part problem k.is) k.defines)))

pub left_unled : (m : Model) (a : Annot) (pr : AgentProblem) (xs : List Frac) (v : ℕ) (x : Frac) → IsProblemOf m a pr → some_block_defines m a v (length a.blocks) ≡ false → pr.leader ≡ None → x ≡ entry xs v → IsValue m a pr xs v x
left_unled m a pr xs v x problem none h e = subst (λ (y : Frac). IsValue m a pr xs v y) (sym e) (left_value m a pr xs v problem none (λ f k. none_some k.part (sym h ∙ k.is)))
  where
    none_some : (p : LeaderPart) → ◌≡◌ {A = Option LeaderPart} None (Some p) → ⊥
    none_some p e = cc

-- ---- the values so far
pub record SoFar (m : Model) (a : Annot) (pr : AgentProblem) (xs list : List Frac) (n : ℕ) : Type 0 where
  pub count : length list ≡ n
  pub each : (v : ℕ) (r : Frac) → slice_get list v ≡ Some r → IsValue m a pr xs v r

-- the party that a fold belongs to
pub fold_narrow : (m : Model) (a : Annot) (pr : AgentProblem) (xs : List Frac) (v : ℕ) (r : Frac) (f : Formula) → IsValue m a pr xs v r → IsFold m a pr xs v f → HasWideCall f → ⊥
fold_narrow m a pr xs v r f h (inl k) wide =
    let s = defined_objective m a (block k.number) v k.defines in (h.fold (block k.number) s.0 f (s.1, k.defines) (k, refl)).narrow wide
fold_narrow m a pr xs v r f h (inr k) wide = let s = defined_objective m a leader v k.defines in (h.fold leader s.0 f (s.1, k.defines) k).narrow wide

pub so_far_first : (m : Model) (a : Annot) (pr : AgentProblem) (xs list : List Frac) (n : ℕ) (v : VarId) (f : FillFault) → n < length m.variables → v.at ≡ n → SoFar m a pr xs list n → ValueGives m a pr xs v (Err f) → ValuesGive m a pr xs (Err f)
so_far_first m a pr xs list n v NoMemory l is before h = tt
so_far_first m a pr xs list n v (Wide w) l is before h =
    let same : w.at ≡ v.at = ap (λ (x : VarId). x.at) h.0 in
    record {
      inside = omega (arith, same, is);
      formula = h.1.formula;
      fold = subst (λ k. IsFold m a pr xs k h.1.formula) (sym same) h.1.fold;
      wide = h.1.wide;
      before = λ u g below fold wide.
          let c = before.count in
          let r = get_or list u (entry xs 0) in
          fold_narrow m a pr xs u r g (before.each u r (slice_get-get_or list u (entry xs 0) (omega (arith, same, is, below)))) fold wide;
    }

pub so_far_more : (m : Model) (a : Annot) (pr : AgentProblem) (xs list new : List Frac) (n : ℕ) (r : Frac) → SoFar m a pr xs list n → IsValue m a pr xs n r → new ≡ list ++ r ∷ [] → SoFar m a pr xs new (n + 1)
so_far_more m a pr xs list new n r before h e =
    subst (λ ys. SoFar m a pr xs ys (n + 1)) (sym e)
    (record {
      count = let c = before.count in omega (arith, length-append list (r ∷ []));
      each = each_pushed (λ k y. IsValue m a pr xs k y) list r before.each (subst (λ k. IsValue m a pr xs k r) (sym before.count) h);
    })

pub so_far_all : (m : Model) (a : Annot) (pr : AgentProblem) (xs list : List Frac) (n : ℕ) → length m.variables ≤ n → n ≤ length m.variables → SoFar m a pr xs list n → AreValues m a pr xs list
so_far_all m a pr xs list n l k h = record { count = h.count ∙ (omega arith); each = h.each }
