-- The parts of the blocks and of the leader.
use Rattle.std.proofs.Common.{◌≡◌, ℕ, suc, ◌+◌, ◌<◌, ◌≤◌, true, List, [], ◌∷◌, ◌++◌, length, get_or, take, Option, Some, arith, sym, ap, subst, ◌∙◌}
use Rattle.std.specs.Prelude.{slice_get, Err}
use Rattle.std.proofs.lemmas.List.{take_more, take_all, length-take-le}
use Rattle.emp_ast.specs.declared.tree.VarId.{VarId}
use Rattle.emp_ast.specs.declared.tree.EquId.{EquId}
use Rattle.emp_ast.specs.declared.model.Sense.{Sense}
use Rattle.emp_ast.specs.declared.model.Model.{Model}
use Rattle.emp_ast.specs.declared.annot.Block.{Block}
use Rattle.emp_ast.specs.declared.annot.Block.TheVariants.{Agent, Vi}
use Rattle.emp_ast.specs.declared.annot.Annot.{Annot}
use Rattle.emp_ast.specs.Parties.{Party, block, objective, block_objective}
use Rattle.emp_form.specs.Form.{Form}
use Rattle.emp_poly.specs.Quads.{HasForm}
use Rattle.emp_poly.specs.declared.quad.Quad.{Quad}
use Rattle.emp_owner.specs.Settled.{IsDefinition}
use Rattle.emp_agents.specs.Given.{given_form}
use Rattle.emp_problem.specs.declared.problem.BlockPart.{BlockPart}
use Rattle.emp_problem.specs.Left.{signed, signed_for, goal_form}
use Rattle.emp_problem.specs.ProblemOf.{IsBlockFor, AreBlocksFor}
use Rattle.emp_problem.specs.Class.{BlockFits}
use Rattle.emp_subst.specs.declared.fault.SubstFault.{SubstFault}
use Rattle.emp_subst.specs.declared.fault.SubstFault.TheVariants.{Poly, Quadratic, LeaderNotLinear, NoMemory}
use Rattle.emp_subst.specs.Stages.{AreDifferences, SolvesBy, PairsFit, LeaderGoalGives, LeaderGives}
use Rattle.emp_subst.proofs.Givens.{gives}

-- ---- the blocks one by one
blocks_push : (m : Model) (a : Annot) (k : ℕ) (bs : List Block) (ps : List BlockPart) (b : Block) (p : BlockPart) → AreBlocksFor m a k bs ps → IsBlockFor m a (k + length bs) b p → AreBlocksFor m a k (bs ++ b ∷ []) (ps ++ p ∷ [])
blocks_push m a k [] [] b p h one = let e : k + 0 ≡ k = omega arith in (subst (λ n. IsBlockFor m a n b p) e one, tt)
blocks_push m a k [] (q ∷ ps) b p h one = absurd h
blocks_push m a k (c ∷ bs) [] b p h one = absurd h
blocks_push m a k (c ∷ bs) (q ∷ ps) b p h one = let e : k + suc (length bs) ≡ suc k + length bs = omega arith in (h.0, blocks_push m a (suc k) bs ps b p h.1 (subst (λ n. IsBlockFor m a n b p) e one))

pub blocks_more : (m : Model) (a : Annot) (ps : List BlockPart) (i : ℕ) (b : Block) (p : BlockPart) → i < length a.blocks → b ≡ get_or a.blocks i b → AreBlocksFor m a 0 (take i a.blocks) ps → IsBlockFor m a i b p → AreBlocksFor m a 0 (take (i + 1) a.blocks) (ps ++ p ∷ [])
blocks_more m a ps i b p l is h one =
    let n = length-take-le i a.blocks (omega arith) in
    let e : i ≡ 0 + length (take i a.blocks) = omega (arith, n) in
    subst (λ bs. AreBlocksFor m a 0 bs (ps ++ p ∷ [])) (ap (λ y. take i a.blocks ++ y ∷ []) is ∙ sym (take_more a.blocks i b l)) (blocks_push m a 0 (take i a.blocks) ps b p h (subst (λ n. IsBlockFor m a n b p) e one))

pub blocks_done : (m : Model) (a : Annot) (ps : List BlockPart) (i : ℕ) → length a.blocks ≤ i → AreBlocksFor m a 0 (take i a.blocks) ps → AreBlocksFor m a 0 a.blocks ps
blocks_done m a ps i l h = subst (λ bs. AreBlocksFor m a 0 bs ps) (take_all i a.blocks l) h

-- ---- objectives
pub goal_has : (m : Model) (a : Annot) (p : Party) (s : Sense) (w : ℕ) (ds : List Quad) (d : Option EquId) (q r : Quad) → objective m a p ≡ Some (s, w) → AreDifferences m ds → IsDefinition m a p d → SolvesBy ds w d q → ((f : Form) → HasForm q f → HasForm r (signed s f)) → HasForm r (goal_form m a p)
goal_has m a p s w ds d q r is are h k turn = subst (λ o. HasForm r (signed_for o (given_form m a p))) (sym is) (turn (given_form m a p) (gives m a p (s, w) ds d q is are h k))

pub agent_objective : (m : Model) (a : Annot) (k : ℕ) (s : Sense) (w : VarId) (vars : List VarId) (equs : List EquId) → slice_get a.blocks k ≡ Some (Agent s w vars equs) → objective m a (block k) ≡ Some (s, w.at)
agent_objective m a k s w vars equs at = ap block_objective at

pub pairs_fit : (v n : ℕ) (b : Block) → BlockFits v n b → PairsFit n b
pairs_fit v n (Agent s w vars equs) h = tt
pairs_fit v n (Vi zeros pairs equs) h = λ i d l. (h.1 i d l).0

-- ---- the leader
pub leader_fault : (m : Model) (a : Annot) (f : SubstFault) → a.bilevel ≡ true → LeaderGoalGives m a (Err f) → LeaderGives m a (Err f)
leader_fault m a (Poly f) b h = h
leader_fault m a (Quadratic e u v) b h = h
leader_fault m a (LeaderNotLinear u v) b h = (b, h)
leader_fault m a NoMemory b h = tt
