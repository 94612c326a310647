use Rattle.std.proofs.Common.{sym, ap, subst, ◌∙◌, get_or}
use Rattle.info_read.specs.declared.lexeme.Sort.TheVariants.{Equilibrium}
use Rattle.info_read.specs.declared.lexeme.Lexeme.{Lexeme}
use Rattle.info_read.specs.Grammar.{Stands}
use Rattle.info_read.specs.Steps.{RefusesLexemes}
use Rattle.info_read.specs.Machine.{step, Steps, Finishes, fault_at}
use Rattle.info_read.proofs.Agree.{lexeme_taken, lexeme_refused, end_accepted, end_refused}
use Rattle.info_read.proofs.parse.parse.Goals as goal

-- what stands behind the last lexeme, where no lexeme stands
abbrev behind : Lexeme
behind = record { sort = Equilibrium; place = record { line = 0; column = 0 } }

pub returns-then-not-branch : goal.returns-then-not-branch
returns-then-not-branch c =
    let t = get_or c.args.lexemes.now c.loop-t.t-index behind in
    let s = subst (λ b. Steps c.loop-t.draft c.advance.new.self (step c.loop-t.draft t.sort) b) c.if-not-branch.true c.in_ok-advance.ensures in
    subst (RefusesLexemes c.args.lexemes.now c.args.end)
    (ap (λ x. fault_at x.stage t) (sym s.1) ∙ sym c.fault_at.ensures)
    (lexeme_refused c.args.lexemes.now c.loop-t.t-index c.loop-t.draft c.loop-t.invariant c.args.end behind c.loop-t-test.true s.0)

pub loop-t-preserved : goal.loop-t-preserved
loop-t-preserved c =
    let t = get_or c.args.lexemes.now c.loop-t.t-index behind in
    lexeme_taken c.args.lexemes.now c.loop-t.t-index c.loop-t.draft c.loop-t.invariant behind c.advance.new.self c.loop-t-test.true
    (subst (λ b. Steps c.loop-t.draft c.advance.new.self (step c.loop-t.draft t.sort) b) c.if-not-branch.false c.in_ok-advance.ensures)

pub returns-in-Some : goal.returns-in-Some
returns-in-Some c =
    let f = subst (Finishes c.loop-t.draft) c.in-Some.is c.in_ok-annot.ensures in
    subst (Stands c.args.lexemes.now) (sym f.1) (end_accepted c.args.lexemes.now c.loop-t.t-index c.loop-t.draft c.loop-t.invariant c.loop-t-test.false f.0)

pub returns-in-None : goal.returns-in-None
returns-in-None c = end_refused c.args.lexemes.now c.loop-t.t-index c.loop-t.draft c.loop-t.invariant c.args.end c.loop-t-test.false (subst (Finishes c.loop-t.draft) c.in-None.is c.in_ok-annot.ensures)
