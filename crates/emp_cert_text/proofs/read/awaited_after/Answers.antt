use Rattle.std.proofs.Common.{◌∷◌, subst, sym}
use Rattle.emp_cert.specs.declared.tree.Node.{Node}
use Rattle.emp_cert.specs.Nodes.{AreTrees}
use Rattle.emp_cert_text.proofs.Reading.{farkas_awaited, bound_awaited}
use Rattle.emp_cert_text.specs.Course.{behind_node, trees_before}
use Rattle.emp_cert_text.proofs.Places.{trees_branch}
use Rattle.std.proofs.Common.{◌≡◌, ◌++◌, ◌+◌, ◌-◌, refl}
use Rattle.emp_cert_text.proofs.read.awaited_after.Goals as goal

pub returns-in-Farkas-clause-trees : goal.returns-in-Farkas-clause-trees
returns-in-Farkas-clause-trees c = λ ns h. subst (λ (d : Node). AreTrees c.args.awaited (d ∷ ns)) (sym c.in-Farkas.is) (farkas_awaited c.args.awaited c.in-Farkas.field-0 ns c.requires.above h)

pub returns-in-Bound-clause-trees : goal.returns-in-Bound-clause-trees
returns-in-Bound-clause-trees c = λ ns h. subst (λ (d : Node). AreTrees c.args.awaited (d ∷ ns)) (sym c.in-Bound.is) (bound_awaited c.args.awaited c.in-Bound.field-0 c.in-Bound.field-1 ns c.requires.above h)

pub returns-in-Branch-clause-parts : goal.returns-in-Branch-clause-parts
returns-in-Branch-clause-parts c = λ h ps.
    subst (λ (d : Node). behind_node h d ++ trees_before (c.args.awaited - 1) h ps ≡ trees_before (c.args.awaited + 1) h ps) (sym c.in-Branch.is) (trees_branch c.args.awaited (c.args.awaited + 1) h ps c.requires.above refl)
