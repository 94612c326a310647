-- A model and an annotation are summed up in one way.
use Rattle.std.proofs.Common.{◌≡◌, ◌⊎◌, inl, inr, ℕ, zero, suc, ◌+◌, ◌<◌, ◌≤◌, List, [], length, take, Option, Some, None, Result, Ok, Err, arith, refl, sym, ap, subst, ◌∙◌}
use Rattle.std.proofs.lemmas.Bool.{cases_lt, cases_order}
use Rattle.std.proofs.lemmas.List.{length-take-le}
use Rattle.std.proofs.lemmas.Option.{same_Some}
use Rattle.emp_num.specs.declared.frac.Frac.{Frac}
use Rattle.emp_form.specs.Calls.{HasWideCall, Runs}
use Rattle.emp_form.proofs.Running.{gives_one}
use Rattle.emp_ast.specs.declared.tree.VarId.{VarId}
use Rattle.emp_ast.specs.declared.model.Model.{Model}
use Rattle.emp_ast.specs.declared.annot.Annot.{Annot}
use Rattle.emp_ast.specs.Names.{variable_names}
use Rattle.emp_command.specs.Words.{Asked, default_work}
use Rattle.emp_command.specs.Course.{Outcome, refusal}
use Rattle.gms_print.proofs.OneText.{one_text}
use Rattle.info_print.specs.Canonical.{info_text}
use Rattle.emp_cert.specs.declared.cert.Found.{Found}
use Rattle.emp_cert.specs.declared.cert.Verdict.{Verdict}
use Rattle.emp_cert.specs.declared.cert.Verdict.TheVariants.{Point}
use Rattle.emp_walk.specs.declared.fault.WalkFault.{WalkFault}
use Rattle.emp_walk.specs.Founds.{CertGives}
use Rattle.emp_subst.specs.declared.fault.FillFault.{FillFault}
use Rattle.emp_solution.specs.declared.state.Stated.{Stated}
use Rattle.emp_solution.specs.Stated.{IsStated}
use Rattle.emp_solution.proofs.Fit.{base_reaches}
use Rattle.emp_unique.proofs.States.{one_state}
use Rattle.emp_report.specs.Report.{equilibrium_report}
use Rattle.emp_report.specs.ClassLines.{value_line}
use Rattle.emp_outcomes.specs.Outcomes.{Fills, verdict_point, ReportOf, Solves, answered}
use Rattle.emp_outcomes.specs.Outcomes as Solving
use Rattle.emp_outcome_laws.proofs.Answering.{one_answer}
use Rattle.emp_outcome_laws.proofs.Fillings.{one_filling}
use Rattle.emp_outcome_laws.proofs.Founds.{one_end}
use Rattle.emp_makes.specs.Makes.{sum_from, IsFirstWide, SumGives, OutputGives, ProfitGives, summary, saves, Saves, HasValues, SumsUp, refused, unfinished, unfilled, wide_output, wide_profit, made}
use Rattle.emp_makes.specs.Laws.{OneSummary}
use Rattle.emp_makes.proofs.Deciding.{point_fits}
use Rattle.emp_makes.proofs.Ends.{walk_above, refusal_above}

-- ---- sums
at_inside : (i j : ℕ) → i ≡ j → ◌≡◌ {A = Result Frac VarId} (Err (record { at = i })) (Err (record { at = j }))
at_inside i j e = rw e refl

module _ (values : List Frac) (first : ℕ) where
  abbrev IsWideTo : ℕ → Type 0
  IsWideTo n = HasWideCall (sum_from values first n)

  wide_up : (n k : ℕ) → k ≤ n → IsWideTo k → IsWideTo n
  wide_up zero k l w =
      let e : k ≡ 0 = omega (arith, l) in
      subst IsWideTo e w
  wide_up (suc n) k l w = go (cases_lt k (suc n)) (λ h. wide_up n k h w)
    where
      go : (k < suc n) ⊎ (suc n ≤ k) → (k ≤ n → IsWideTo n) → IsWideTo (suc n)
      go (inl h) up = inl (up (omega (arith, h)))
      go (inr h) up =
          let e : k ≡ suc n = omega (arith, h, l) in
          subst IsWideTo e w

  firsts_same : (n v w : ℕ) → IsFirstWide values first n v → IsFirstWide values first n w → v ≡ w
  firsts_same n v w x y = x.is ∙ (ap (λ (k : ℕ). first + k) (go (cases_order x.before y.before)) ∙ sym y.is)
    where
      go : (x.before ≡ y.before) ⊎ ((x.before < y.before) ⊎ (y.before < x.before)) → x.before ≡ y.before
      go (inl e) = e
      go (inr (inl l)) = absurd (y.narrow (wide_up y.before (x.before + 1) (omega (arith, l)) x.wide))
      go (inr (inr l)) = absurd (x.narrow (wide_up x.before (y.before + 1) (omega (arith, l)) y.wide))

  not_both : (n w : ℕ) (sum : Frac) → Runs (sum_from values first n) (Ok sum) → IsFirstWide values first n w → ⊥
  not_both n w sum x y =
      let l = y.inside in
      x.1 (wide_up n (y.before + 1) (omega (arith, l)) y.wide)

  one_sum : (n : ℕ) (r t : Result Frac VarId) → SumGives values first n r → SumGives values first n t → r ≡ t
  one_sum n (Ok x) (Ok y) h k = ap Ok (gives_one (sum_from values first n) x y h.0 k.0)
  one_sum n (Ok x) (Err w) h k = absurd (not_both n w.at x h k)
  one_sum n (Err v) (Ok y) h k = absurd (not_both n v.at y k h)
  one_sum n (Err v) (Err w) h k = at_inside v.at w.at (firsts_same n v.at w.at h k)

sum_inside : (x y : Frac) → ◌≡◌ {A = Result Frac VarId} (Ok x) (Ok y) → x ≡ y
sum_inside x y e = cc

wide_inside : (v w : VarId) → ◌≡◌ {A = Result Frac VarId} (Err v) (Err w) → v ≡ w
wide_inside v w e = cc

sum_or_wide : (x : Frac) (w : VarId) → ◌≡◌ {A = Result Frac VarId} (Ok x) (Err w) → ⊥
sum_or_wide x w e = cc

-- ---- what is said of the values
data SaysValues (m : Model) (a : Annot) (r : Asked) (values : List Frac) : Outcome → Type 0 where
  no_output : (w : VarId) → OutputGives r.firms values (Err w) → SaysValues m a r values (refusal 19 (value_line m w))
  no_profit : (output : Frac) (w : VarId) → OutputGives r.firms values (Ok output) → ProfitGives r.firms values (Err w) → SaysValues m a r values (refusal 19 (value_line m w))
  both : (output profit : Frac) (stores : List (List ℕ × List ℕ)) → OutputGives r.firms values (Ok output) → ProfitGives r.firms values (Ok profit) → Saves m a r.output stores → SaysValues m a r values (record { status = 0; stores = stores; says = summary r.firms output profit })

one_store : (m : Model) (a : Annot) (o : Option (List ℕ)) (s t : List (List ℕ × List ℕ)) → Saves m a o s → Saves m a o t → s ≡ t
one_store m a None s t h k = h ∙ sym k
one_store m a (Some name) s t h k = h.2 ∙ (ap (λ (text : List ℕ). saves name text (info_text m a)) (one_text m h.0 k.0 h.1 k.1) ∙ sym k.2)

module _ (m : Model) (a : Annot) (r : Asked) (values : List Frac) where
  outputs : (x y : Result Frac VarId) → OutputGives r.firms values x → OutputGives r.firms values y → x ≡ y
  outputs = one_sum values r.firms r.firms

  profits : (x y : Result Frac VarId) → ProfitGives r.firms values x → ProfitGives r.firms values y → x ≡ y
  profits = one_sum values 0 r.firms

  summed : (x y : Frac) (u v : Frac) (s t : List (List ℕ × List ℕ)) → x ≡ y → u ≡ v → s ≡ t → ◌≡◌ {A = Outcome} (record { status = 0; stores = s; says = summary r.firms x u }) (record { status = 0; stores = t; says = summary r.firms y v })
  summed x y u v s t e f g = rw e (rw f (rw g refl))

  values_say : (o p : Outcome) → SaysValues m a r values o → SaysValues m a r values p → o ≡ p
  values_say o p (no_output v h) (no_output w k) = ap (λ (u : VarId). refusal 19 (value_line m u)) (wide_inside v w (outputs (Err v) (Err w) h k))
  values_say o p (no_output v h) (no_profit y w k l) = absurd (sum_or_wide y v (outputs (Ok y) (Err v) k h))
  values_say o p (no_output v h) (both y z t k l g) = absurd (sum_or_wide y v (outputs (Ok y) (Err v) k h))
  values_say o p (no_profit x v h i) (no_output w k) = absurd (sum_or_wide x w (outputs (Ok x) (Err w) h k))
  values_say o p (no_profit x v h i) (no_profit y w k l) = ap (λ (u : VarId). refusal 19 (value_line m u)) (wide_inside v w (profits (Err v) (Err w) i l))
  values_say o p (no_profit x v h i) (both y z t k l g) = absurd (sum_or_wide z v (profits (Ok z) (Err v) l i))
  values_say o p (both x u s h i f) (no_output w k) = absurd (sum_or_wide x w (outputs (Ok x) (Err w) h k))
  values_say o p (both x u s h i f) (no_profit y w k l) = absurd (sum_or_wide u w (profits (Ok u) (Err w) i l))
  values_say o p (both x u s h i f) (both y z t k l g) =
      summed x y u z s t (sum_inside x y (outputs (Ok x) (Ok y) h k)) (sum_inside u z (profits (Ok u) (Ok z) i l)) (one_store m a r.output s t f g)

-- ---- the values
found_inside : (f g : Found) → ◌≡◌ {A = Result Found WalkFault} (Ok f) (Ok g) → f ≡ g
found_inside f g e = cc

values_inside : (v w : List Frac) → ◌≡◌ {A = Result (List Frac) FillFault} (Ok v) (Ok w) → v ≡ w
values_inside v w e = cc

module _ (m : Model) (a : Annot) where
  filled_one : (s : Stated) (f : Found) (fs gs v w : List Frac) → IsStated m a s → CertGives s.system default_work (Ok f) → f.cert.verdict ≡ Point fs → f.cert.verdict ≡ Point gs → Fills m a s fs (Ok v) → Fills m a s gs (Ok w) → v ≡ w
  filled_one s f fs gs v w i g d e x y =
      let same : gs ≡ fs = same_Some gs fs (ap verdict_point (sym e ∙ d)) in
      let reach = base_reaches s.problem s.system i.rows in
      let count = point_fits m a s i default_work f g fs d in
      values_inside v w
      (one_filling m a s.problem (take (length s.problem.variables) fs) (Ok v) (Ok w) i.class i.problem
      (length-take-le (length s.problem.variables) fs (omega (arith, reach, count)))
      (λ n. cc)
      (λ n. cc)
      x (subst (λ (zs : List Frac). Fills m a s zs (Ok w)) same y))

  values_one : (v w : List Frac) → HasValues m a v → HasValues m a w → v ≡ w
  values_one v w x y = at x.stated (one_state m a y.stated x.stated y.is x.is) x.is x.search x.fills
    where
      at : (s : Stated) → y.stated ≡ s → IsStated m a s → CertGives s.system default_work (Ok x.found) → Fills m a s x.point (Ok v) → v ≡ w
      at s e i g fills =
          let there = subst (λ (t : Stated). CertGives t.system default_work (Ok y.found)) e y.search in
          let same = found_inside y.found x.found (one_end s.system default_work (Ok y.found) (Ok x.found) (λ n. cc) (λ n. cc) there g) in
          filled_one s x.found x.point y.point v w i g x.verdict (subst (λ (f : Found). f.cert.verdict ≡ Point y.point) same y.verdict) fills
          (subst (λ (t : Stated). Fills m a t y.point (Ok w)) e y.fills)

-- ---- before there are values, `solve` with the same work answers the same
abbrev unsaved : Asked → Asked
unsaved r = record { verb = r.verb; files = r.files; output = None; work = default_work; seed = r.seed; firms = r.firms }

record HasSums (m : Model) (a : Annot) (r : Asked) (o : Outcome) : Type 0 where
  values : List Frac
  has : HasValues m a values
  says : SaysValues m a r values o

record EndsBefore (m : Model) (a : Annot) (r : Asked) (o : Outcome) : Type 0 where
  solves : Solves m a (unsaved r) o
  above : o.status ≡ 0 → ⊥

module _ (m : Model) (a : Annot) (r : Asked) where
  parted : (o : Outcome) → SumsUp m a r o → EndsBefore m a r o ⊎ HasSums m a r o
  parted o (refused p h) = inl (record { solves = Solving.refused p h; above = refusal_above m a p h })
  parted o (unfinished s f n i g) = inl (record { solves = Solving.unfinished s f n i g; above = walk_above f })
  parted o (unfilled s f w i g u) = inl (record { solves = Solving.unfilled s f w i g u; above = λ e. omega (arith, e) })
  parted o (wide_output values w h k) = inr (record { values = values; has = h; says = no_output w k })
  parted o (wide_profit values output w h k l) = inr (record { values = values; has = h; says = no_profit output w k l })
  parted o (made values output profit stores h k l s) = inr (record { values = values; has = h; says = both output profit stores k l s })

  -- `solve` reports the values
  reports : (values : List Frac) (h : HasValues m a values) → Solves m a (unsaved r) (record { status = 0; stores = []; says = equilibrium_report h.found.work (variable_names m) values })
  reports values h =
      let report : ℕ × List ℕ = (0, equilibrium_report h.found.work (variable_names m) values) in
      answered h.stated h.found report h.is h.search
      (subst (λ (v : Verdict). ReportOf m a h.stated h.found v report) (sym h.verdict) (record { values = values; fills = h.fills; is = refl })) tt

  not_before : (o : Outcome) (values : List Frac) → EndsBefore m a r o → HasValues m a values → ⊥
  not_before o values x h =
      x.above (ap (λ (p : Outcome). p.status) (one_answer m a (unsaved r) o (record { status = 0; stores = []; says = equilibrium_report h.found.work (variable_names m) values }) x.solves (reports values h)))

  one_of : (o p : Outcome) → EndsBefore m a r o ⊎ HasSums m a r o → EndsBefore m a r p ⊎ HasSums m a r p → o ≡ p
  one_of o p (inl x) (inl y) = one_answer m a (unsaved r) o p x.solves y.solves
  one_of o p (inl x) (inr y) = absurd (not_before o y.values x y.has)
  one_of o p (inr x) (inl y) = absurd (not_before p x.values y x.has)
  one_of o p (inr x) (inr y) =
      values_say m a r y.values o p (subst (λ (vs : List Frac). SaysValues m a r vs o) (values_one m a x.values y.values x.has y.has) x.says) y.says

pub one_summary : OneSummary
one_summary m a r o p h k = one_of m a r o p (parted m a r o h) (parted m a r p k)
