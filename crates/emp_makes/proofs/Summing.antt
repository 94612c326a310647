-- What is answered over a market, step by step.
use Rattle.std.proofs.Common.{◌≡◌, ◌≢◌, ◌⊎◌, inl, inr, ℕ, List, Result, Ok, Err, IfOk, sym, subst, ap, ◌∙◌}
use Rattle.emp_list.specs.declared.memory.NoMemory.{NoMemory}
use Rattle.emp_num.specs.declared.frac.Frac.{Frac}
use Rattle.emp_ast.specs.declared.tree.VarId.{VarId}
use Rattle.emp_ast.specs.declared.model.Model.{Model}
use Rattle.emp_ast.specs.declared.annot.Annot.{Annot}
use Rattle.emp_command.specs.Words.{Asked, default_work}
use Rattle.emp_command.specs.Course.{Outcome, refusal}
use Rattle.emp_cert.specs.declared.cert.Found.{Found}
use Rattle.emp_cert.specs.declared.cert.Verdict.TheVariants.{Point}
use Rattle.emp_walk.specs.declared.fault.WalkFault.{WalkFault}
use Rattle.emp_walk.specs.declared.fault.WalkFault.TheVariants as WalkWords
use Rattle.emp_walk.specs.Founds.{CertGives}
use Rattle.emp_solution.specs.declared.state.Stated.{Stated}
use Rattle.emp_solution.specs.Stated.{IsStated}
use Rattle.emp_subst.specs.declared.fault.FillFault.{FillFault}
use Rattle.emp_subst.specs.declared.fault.FillFault.TheVariants as FillWords
use Rattle.emp_report.specs.ClassLines.{value_line}
use Rattle.emp_outcomes.specs.declared.said.Answer.{Answer}
use Rattle.emp_outcomes.specs.Outcomes.{walk_status, walk_line, verdict_point, Fills, Refuses}
use Rattle.emp_outcomes.specs.Steps.{outcome_of, ValueRefused}
use Rattle.emp_outcomes.proofs.Oks.{ok_map}
use Rattle.emp_make.specs.Markets.{IsMarket}
use Rattle.emp_makes.specs.declared.sums.Totals.{Totals}
use Rattle.emp_makes.specs.Makes.{summary, Saves, HasValues, SumsUp, refused, unfinished, unfilled, wide_output, wide_profit, made, Makes, OutputGives, ProfitGives}
use Rattle.emp_makes.specs.Making.{TotalsGive, SaysSums}

-- ---- one outcome
module _ (m : Model) (a : Annot) (r : Asked) where
  unfilled_one : (s : Stated) (f : Found) (fs : List Frac) (w : FillFault) (o : Outcome) → IsStated m a s → CertGives s.system default_work (Ok f) → f.cert.verdict ≡ Point fs → Fills m a s fs (Err w) → ValueRefused m w o → SumsUp m a r o
  unfilled_one s f fs (FillWords.Wide w) o i g v u e = subst (SumsUp m a r) (sym e) (unfilled s f w i g (record { point = fs; is = ap verdict_point v; fills = u }))
  unfilled_one s f fs FillWords.NoMemory o i g v u e = absurd e

  wide_one : (values : List Frac) (w : VarId) → HasValues m a values → OutputGives r.firms values (Err w) ⊎ ((output : Frac) × OutputGives r.firms values (Ok output) × ProfitGives r.firms values (Err w)) → SumsUp m a r (refusal 19 (value_line m w))
  wide_one values w h (inl k) = wide_output values w h k
  wide_one values w h (inr k) = wide_profit values k.0 w h k.1 k.2

  pub wide_sum : (values : List Frac) (w : VarId) (o : Outcome) → HasValues m a values → TotalsGive r.firms values (Err w) → o ≡ refusal 19 (value_line m w) → SumsUp m a r o
  wide_sum values w o h k e = subst (SumsUp m a r) (sym e) (wide_one values w h k)

  said_one : (values : List Frac) (t : Totals) (o : Outcome) → HasValues m a values → TotalsGive r.firms values (Ok t) → SaysSums m a r t o → SumsUp m a r o
  said_one values t o h k says = subst (SumsUp m a r) (sym says.is) (made values t.output t.profit says.stores h k.0 k.1 says.saves)

-- ---- answers
module _ (x : Result Answer NoMemory) (m : Model) (a : Annot) (r : Asked) where
  abbrev Good : Answer → Type 0
  Good s = SumsUp m a r (outcome_of s)

  pub refused_answer : IfOk x (λ s. Refuses m a (outcome_of s)) → IfOk x Good
  refused_answer p = ok_map x (λ s. Refuses m a (outcome_of s)) Good (λ s h. refused (outcome_of s) h) p

  pub unfinished_answer : (s : Stated) (f : WalkFault) → IsStated m a s → CertGives s.system default_work (Err f) → IfOk x (λ o. (f ≢ WalkWords.NoMemory) × (outcome_of o ≡ refusal (walk_status f) (walk_line f))) → IfOk x Good
  unfinished_answer s f i g p = ok_map x (λ o. (f ≢ WalkWords.NoMemory) × (outcome_of o ≡ refusal (walk_status f) (walk_line f))) Good (λ o h. subst (SumsUp m a r) (sym h.1) (unfinished s f h.0 i g)) p

  pub unfilled_answer : (s : Stated) (f : Found) (fs : List Frac) (w : FillFault) → IsStated m a s → CertGives s.system default_work (Ok f) → f.cert.verdict ≡ Point fs → Fills m a s fs (Err w) → IfOk x (λ o. ValueRefused m w (outcome_of o)) → IfOk x Good
  unfilled_answer s f fs w i g v u p = ok_map x (λ o. ValueRefused m w (outcome_of o)) Good (λ o e. unfilled_one m a r s f fs w (outcome_of o) i g v u e) p

  pub said_answer : (values : List Frac) (t : Totals) → HasValues m a values → TotalsGive r.firms values (Ok t) → IfOk x (λ o. SaysSums m a r t (outcome_of o)) → IfOk x Good
  said_answer values t h k p = ok_map x (λ o. SaysSums m a r t (outcome_of o)) Good (λ o says. said_one m a r values t (outcome_of o) h k says) p

  pub made_answer : IsMarket r.seed r.firms m a → IfOk x Good → IfOk x (λ o. Makes r (outcome_of o))
  made_answer h p = ok_map x Good (λ o. Makes r (outcome_of o)) (λ o k. record { model = m; annot = a; market = h; sums = k }) p

-- the values that were filled, as a slice
pub has_values : (m : Model) (a : Annot) (s : Stated) (f : Found) (fs values list : List Frac) → IsStated m a s → CertGives s.system default_work (Ok f) → f.cert.verdict ≡ Point fs → values ≡ list → Fills m a s fs (Ok list) → HasValues m a values
has_values m a s f fs values list i g v e h = record { stated = s; is = i; found = f; search = g; point = fs; verdict = v; fills = subst (λ vs. Fills m a s fs (Ok vs)) (sym e) h }

-- the sums that are said
pub says_sums : (m : Model) (a : Annot) (r : Asked) (t : Totals) (stores : List (List ℕ × List ℕ)) (text : List ℕ) (o : Outcome) → Saves m a r.output stores → text ≡ summary r.firms t.output t.profit → o ≡ record { status = 0; stores = stores; says = text } → SaysSums m a r t o
says_sums m a r t stores text o h e k = record { stores = stores; saves = h; is = k ∙ ap (λ s. record { status = 0; stores = stores; says = s }) e }
