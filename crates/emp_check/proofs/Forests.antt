-- The pass over the nodes of a tree.
use Rattle.std.proofs.Common.{◌≡◌, ◌↔◌, ℕ, ◌+◌, Bool, true, false, cond, List, [], ◌∷◌, ◌++◌, Some, append_assoc, refl, sym, ap, ap₂, ◌∙◌}
use Rattle.std.proofs.lemmas.List.{append-nil}
use Rattle.emp_rows.specs.declared.system.RowSystem.{RowSystem}
use Rattle.emp_cert.specs.declared.tree.Turn.{Turn}
use Rattle.emp_cert.specs.declared.tree.Node.{Node}
use Rattle.emp_check.specs.declared.outcome.Tested.{Tested}
use Rattle.emp_check.specs.declared.outcome.Tested.TheVariants.{Fine, Wrong, Wide}
use Rattle.emp_check.specs.declared.outcome.Checked.{Checked}
use Rattle.emp_check.specs.declared.outcome.Checked.TheVariants.{Accepted}
use Rattle.emp_check.specs.declared.outcome.Why.TheVariants.{Split}
use Rattle.emp_check.specs.Levels.{Level}
use Rattle.emp_cert.specs.Paths.{turn, is_split}
use Rattle.emp_check.specs.Paths.{advance}
use Rattle.emp_check.specs.Tests.{farkas_test, bound_test}
use Rattle.emp_check.specs.Trees.{at_node, nodes_test}
use Rattle.emp_cert.specs.Deciders.{NodeTree, split, refutes, bounds, preorder}

-- a tree at a path: no pair is split twice, and each leaf passes its test
abbrev pub Decides : RowSystem → Level → List Turn → NodeTree → Type 0
Decides s best p (split k a b) = (is_split p k ≡ false) × Decides s best (turn k false ∷ p) a × Decides s best (turn k true ∷ p) b
Decides s best p (refutes fs) = farkas_test s p fs ≡ Fine
Decides s best p (bounds w fs) = bound_test s best p w fs ≡ Fine

-- ---- the pass over a tree's nodes
pub passed : (n : ℕ) (t : Tested) (rest : Checked) → at_node n t rest ≡ Accepted → (t ≡ Fine) × (rest ≡ Accepted)
passed n Fine rest e = (refl, e)
passed n (Wrong w) rest e = cc
passed n Wide rest e = cc

passes : (n : ℕ) (t : Tested) (rest : Checked) → t ≡ Fine → rest ≡ Accepted → at_node n t rest ≡ Accepted
passes n t rest e f = ap₂ (λ (x : Tested) (y : Checked). at_node n x y) e f

unsplit : (b : Bool) → cond b (Wrong Split) Fine ≡ Fine → b ≡ false
unsplit true e = cc
unsplit false e = refl

module _ (s : RowSystem) (best : Level) where
  record Goes (p : List Turn) (t : NodeTree) (ns : List Node) : Type 0 where
    decides : Decides s best p t
    number : ℕ
    rest : nodes_test s best number (advance p) ns ≡ Accepted

  forth : (t : NodeTree) (p : List Turn) (n : ℕ) (ns : List Node) → nodes_test s best n (Some p) (preorder t ++ ns) ≡ Accepted → Goes p t ns
  forth (refutes fs) p n ns e = let h = passed n (farkas_test s p fs) (nodes_test s best (n + 1) (advance p) ns) e in record { decides = h.0; number = n + 1; rest = h.1 }
  forth (bounds w fs) p n ns e = let h = passed n (bound_test s best p w fs) (nodes_test s best (n + 1) (advance p) ns) e in record { decides = h.0; number = n + 1; rest = h.1 }
  forth (split k a b) p n ns e =
      let h = passed n (cond (is_split p k) (Wrong Split) Fine) (nodes_test s best (n + 1) (Some (turn k false ∷ p)) ((preorder a ++ preorder b) ++ ns)) e in
      let g = forth a (turn k false ∷ p) (n + 1) (preorder b ++ ns) (ap (nodes_test s best (n + 1) (Some (turn k false ∷ p))) (sym (append_assoc (preorder a) (preorder b) ns)) ∙ h.1) in
      let f = forth b (turn k true ∷ p) g.number ns g.rest in
      record { decides = (unsplit (is_split p k) h.0, g.decides, f.decides); number = f.number; rest = f.rest }

  back : (t : NodeTree) (p : List Turn) (ns : List Node) → Decides s best p t → ((m : ℕ) → nodes_test s best m (advance p) ns ≡ Accepted) → (n : ℕ) → nodes_test s best n (Some p) (preorder t ++ ns) ≡ Accepted
  back (refutes fs) p ns d h n = passes n (farkas_test s p fs) (nodes_test s best (n + 1) (advance p) ns) d (h (n + 1))
  back (bounds w fs) p ns d h n = passes n (bound_test s best p w fs) (nodes_test s best (n + 1) (advance p) ns) d (h (n + 1))
  back (split k a b) p ns d h n =
      passes n (cond (is_split p k) (Wrong Split) Fine) (nodes_test s best (n + 1) (Some (turn k false ∷ p)) ((preorder a ++ preorder b) ++ ns)) (ap (λ x. cond x (Wrong Split) Fine) d.0)
      (ap (nodes_test s best (n + 1) (Some (turn k false ∷ p))) (append_assoc (preorder a) (preorder b) ns) ∙ back a (turn k false ∷ p) (preorder b ++ ns) d.1 (λ m. back b (turn k true ∷ p) ns d.2 h m) (n + 1))

  pub accepted_tree : (t : NodeTree) → (nodes_test s best 1 (Some []) (preorder t) ≡ Accepted) ↔ Decides s best [] t
  accepted_tree t =
      ((λ e. (forth t [] 1 [] (ap (nodes_test s best 1 (Some [])) (append-nil (preorder t)) ∙ e)).decides), (λ d. ap (nodes_test s best 1 (Some [])) (sym (append-nil (preorder t))) ∙ back t [] [] d (λ m. refl) 1))
