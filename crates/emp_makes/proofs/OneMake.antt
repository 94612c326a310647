-- A seed and a count of firms have one outcome, unless a coefficient is wide.
use Rattle.std.proofs.Common.{◌≡◌, ◌⊎◌, inl, inr, ℕ, false, List, length, take, Option, Some, None, Ok, Err, refl, sym, ap, subst, ◌∙◌}
use Rattle.emp_num.specs.declared.frac.Frac.{Frac}
use Rattle.emp_ast.specs.declared.tree.VarId.{VarId}
use Rattle.emp_ast.specs.declared.model.Model.{Model}
use Rattle.emp_ast.specs.declared.annot.Annot.{Annot}
use Rattle.emp_ast.specs.Names.{SameModel}
use Rattle.emp_command.specs.Words.{Asked}
use Rattle.emp_command.specs.Course.{Outcome, refusal}
use Rattle.emp_poly.specs.declared.tree.PolyFault.TheVariants as PolyWords
use Rattle.emp_problem.specs.declared.problem.AgentProblem.{AgentProblem}
use Rattle.emp_share.specs.declared.share.ShareFault.TheVariants as ShareWords
use Rattle.emp_share.specs.Share.{ShareGives}
use Rattle.emp_kkt.specs.declared.make.KktFault.TheVariants as KktWords
use Rattle.emp_kkt.specs.Gives.{KktGives}
use Rattle.emp_subst.specs.declared.fault.FillFault.TheVariants as FillWords
use Rattle.emp_solution.specs.declared.state.Stated.{Stated}
use Rattle.emp_solution.specs.declared.state.StateFault.{StateFault}
use Rattle.emp_solution.specs.declared.state.StateFault.TheVariants as StateWords
use Rattle.emp_solution.specs.Stated.{IsStated, HasUnfit, StateGives}
use Rattle.emp_accepted.specs.Accepted.{IsAcceptedPair}
use Rattle.emp_accepted.proofs.Faults.{accepted_are_stated, accepted_break_none}
use Rattle.emp_market.proofs.AcceptMarkets.{markets_are_accepted}
use Rattle.emp_report.specs.ClassLines.{value_line}
use Rattle.emp_outcomes.specs.Outcomes.{state_status, state_line, IsNamedFault, Refuses, bad_owner, unstated}
use Rattle.emp_make.specs.Markets.{IsMarket}
use Rattle.emp_make.proofs.Ones.{one_model, one_annot}
use Rattle.emp_makes.specs.Makes.{saves, Saves, HasValues, SumsUp, refused, unfinished, unfilled, wide_output, wide_profit, made}
use Rattle.emp_makes.specs.Laws.{SaysWideCoefficient, OneMake}
use Rattle.emp_makes.proofs.OneSummary.{one_summary}
use Rattle.emp_makes.proofs.Places.{problem_same, expand_same, fill_same, canonical_same, info_same, value_line_same}

-- ---- from a model to one that differs in places alone
module _ (m n : Model) (s : SameModel m n) (a : Annot) (single : a.bilevel ≡ false) (from : IsAcceptedPair m a) (to : IsAcceptedPair n a) where
  stated_same : (t : Stated) → IsStated m a t → IsStated n a t
  stated_same t h = record { expanded = expand_same m n s a h.expanded; class = to.class; problem = problem_same m n s a t.problem single h.problem; convex = h.convex; rows = h.rows }

  unfit_same : (ends : AgentProblem → Type 0) → HasUnfit m a ends → HasUnfit n a ends
  unfit_same ends h = record { expanded = expand_same m n s a h.expanded; class = to.class; problem = h.problem; is = problem_same m n s a h.problem single h.is; fault = h.fault }

  values_same : (values : List Frac) → HasValues m a values → HasValues n a values
  values_same values h = record {
    stated = h.stated;
    is = stated_same h.stated h.is;
    found = h.found;
    search = h.search;
    point = h.point;
    verdict = h.verdict;
    fills = fill_same m n s a h.stated.problem (take (length h.stated.problem.variables) h.point) (Ok values) h.fills;
  }

  saves_same : (o : Option (List ℕ)) (stores : List (List ℕ × List ℕ)) → Saves m a o stores → Saves n a o stores
  saves_same None stores h = h
  saves_same (Some name) stores h = (h.0, canonical_same m n h.0 s h.1, h.2 ∙ ap (saves name h.0) (info_same m n s a))

  module _ (r : Asked) where
    abbrev Moves : Outcome → Type 0
    Moves o = SumsUp n a r o ⊎ SaysWideCoefficient o

    fault_moves : (f : StateFault) → IsNamedFault f → StateGives m a (Err f) → Moves (refusal (state_status f) (state_line m f))
    fault_moves (StateWords.Poly (PolyWords.Wide p)) i g = inr (p, refl)
    fault_moves (StateWords.Poly (PolyWords.Degree p)) i g = absurd (accepted_are_stated m a (StateWords.Poly (PolyWords.Degree p)) from g)
    fault_moves (StateWords.Poly (PolyWords.DivideByVariable p)) i g = absurd (accepted_are_stated m a (StateWords.Poly (PolyWords.DivideByVariable p)) from g)
    fault_moves (StateWords.Poly (PolyWords.DivideByZero p)) i g = absurd (accepted_are_stated m a (StateWords.Poly (PolyWords.DivideByZero p)) from g)
    fault_moves (StateWords.Poly PolyWords.NoMemory) i g = absurd i
    fault_moves (StateWords.Quadratic e u v) i g = absurd (accepted_are_stated m a (StateWords.Quadratic e u v) from g)
    fault_moves (StateWords.LeaderNotLinear u v) i g = absurd (accepted_are_stated m a (StateWords.LeaderNotLinear u v) from g)
    fault_moves (StateWords.NotConvex b k) i g = absurd (accepted_are_stated m a (StateWords.NotConvex b k) from g)
    fault_moves (StateWords.WideCurve b k) i g =
        inl (refused (refusal (state_status (StateWords.WideCurve b k)) (state_line n (StateWords.WideCurve b k))) (unstated (StateWords.WideCurve b k) tt to.class.kept (unfit_same (λ pr. ShareGives pr (Err (ShareWords.WideCurve b k))) g)))
    fault_moves StateWords.TooLarge i g = absurd (accepted_are_stated m a StateWords.TooLarge from g)
    fault_moves (StateWords.WideRow k) i g =
        inl (refused (refusal (state_status (StateWords.WideRow k)) (state_line n (StateWords.WideRow k))) (unstated (StateWords.WideRow k) tt to.class.kept (unfit_same (λ pr. ShareGives pr (Ok tt) × KktGives pr (Err (KktWords.WideRow k))) g)))
    fault_moves StateWords.NoMemory i g = absurd i

    refusal_moves : (o : Outcome) → Refuses m a o → Moves o
    refusal_moves o (bad_owner f k b) = absurd (accepted_break_none m a f k from b)
    refusal_moves o (unstated f i kept g) = fault_moves f i g

    lined : (w : VarId) → SumsUp n a r (refusal 19 (value_line n w)) → Moves (refusal 19 (value_line m w))
    lined w h = inl (subst (λ (line : List ℕ). SumsUp n a r (refusal 19 line)) (sym (value_line_same m n s w)) h)

    moves : (o : Outcome) → SumsUp m a r o → Moves o
    moves o (refused p h) = refusal_moves p h
    moves o (unfinished t f k i g) = inl (unfinished t f k (stated_same t i) g)
    moves o (unfilled t f w i g u) =
        lined w (unfilled t f w (stated_same t i) g (record { point = u.point; is = u.is; fills = fill_same m n s a t.problem (take (length t.problem.variables) u.point) (Err (FillWords.Wide w)) u.fills }))
    moves o (wide_output values w h k) = lined w (wide_output values w (values_same values h) k)
    moves o (wide_profit values output w h k l) = lined w (wide_profit values output w (values_same values h) k l)
    moves o (made values output profit stores h k l g) = inl (made values output profit stores (values_same values h) k l (saves_same r.output stores g))

-- ---- two markets of a seed
module _ (r : Asked) (m n : Model) (a : Annot) (first : IsMarket r.seed r.firms m a) (second : IsMarket r.seed r.firms n a) (from : IsAcceptedPair m a) (to : IsAcceptedPair n a) where
  one_of : (o p : Outcome) → SumsUp m a r o → SumsUp n a r p → (o ≡ p) ⊎ (SaysWideCoefficient o × SaysWideCoefficient p)
  one_of o p x y = go (moves m n (one_model r.seed r.firms m n first.model second.model) a first.annot.bilevel from to r o x) (moves n m (one_model r.seed r.firms n m second.model first.model) a first.annot.bilevel to from r p y)
    where
      go : SumsUp n a r o ⊎ SaysWideCoefficient o → SumsUp m a r p ⊎ SaysWideCoefficient p → (o ≡ p) ⊎ (SaysWideCoefficient o × SaysWideCoefficient p)
      go (inl h) k = inl (one_summary n a r o p h y)
      go (inr h) (inl k) = inl (one_summary m a r o p x k)
      go (inr h) (inr k) = inr (h, k)

pub one_make : OneMake
one_make r o p range h k =
    let same : k.annot ≡ h.annot = one_annot r.firms k.annot h.annot k.market.annot h.market.annot in
    let market = subst (λ (a : Annot). IsMarket r.seed r.firms k.model a) same k.market in
    one_of r h.model k.model h.annot h.market market (markets_are_accepted r.seed r.firms h.model h.annot range.1 h.market) (markets_are_accepted r.seed r.firms k.model h.annot range.1 market) o p h.sums
    (subst (λ (a : Annot). SumsUp k.model a r p) same k.sums)
