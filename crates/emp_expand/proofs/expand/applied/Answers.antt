use Rattle.std.proofs.Common.{reverse, sym, subst}
use Rattle.emp_ast.specs.declared.tree.Operator.TheVariants.{Plus, Minus, Times, Over}
use Rattle.emp_expand.specs.Expanding.{Applies}
use Rattle.emp_expand.proofs.Stacks.{join_applies}
use Rattle.emp_expand.proofs.expand.applied.Goals as goal

pub returns-in-Add : goal.returns-in-Add
returns-in-Add c =
    subst (λ n. Applies (reverse c.args.stack.now.items) n c.gathered.result (reverse c.pulled-left.new.stack.items)) (sym c.in-Add.is)
    (join_applies Plus (reverse c.args.stack.now.items) (reverse c.pulled-right.new.stack.items) (reverse c.pulled-left.new.stack.items) c.pulled-left.result c.pulled-right.result c.gathered.result c.pulled-right.ensures.top c.pulled-left.ensures.top c.gathered.ensures)

pub returns-in-Sub : goal.returns-in-Sub
returns-in-Sub c =
    subst (λ n. Applies (reverse c.args.stack.now.items) n c.gathered-in-Sub.result (reverse c.pulled-minuend.new.stack.items)) (sym c.in-Sub.is)
    (join_applies Minus (reverse c.args.stack.now.items) (reverse c.pulled-subtrahend.new.stack.items) (reverse c.pulled-minuend.new.stack.items) c.pulled-minuend.result c.pulled-subtrahend.result c.gathered-in-Sub.result c.pulled-subtrahend.ensures.top c.pulled-minuend.ensures.top c.gathered-in-Sub.ensures)

pub returns-in-Mul : goal.returns-in-Mul
returns-in-Mul c =
    subst (λ n. Applies (reverse c.args.stack.now.items) n c.multiply.result (reverse c.pulled-first.new.stack.items)) (sym c.in-Mul.is)
    (join_applies Times (reverse c.args.stack.now.items) (reverse c.pulled-second.new.stack.items) (reverse c.pulled-first.new.stack.items) c.pulled-first.result c.pulled-second.result c.multiply.result c.pulled-second.ensures.top c.pulled-first.ensures.top c.multiply.ensures)

pub returns-in-Div : goal.returns-in-Div
returns-in-Div c =
    subst (λ n. Applies (reverse c.args.stack.now.items) n c.divide.result (reverse c.pulled-dividend.new.stack.items)) (sym c.in-Div.is)
    (join_applies Over (reverse c.args.stack.now.items) (reverse c.pulled-divisor.new.stack.items) (reverse c.pulled-dividend.new.stack.items) c.pulled-dividend.result c.pulled-divisor.result c.divide.result c.pulled-divisor.ensures.top c.pulled-dividend.ensures.top c.divide.ensures)
