-- What is answered over texts is one outcome.
use Rattle.std.proofs.Common.{◌≡◌, ◌≢◌, ◌⊎◌, inl, inr, ℕ, true, false, List, [], ◌∷◌, ◌++◌, Some, refl, sym, ap, subst, ◌∙◌}
use Rattle.std.proofs.lemmas.Bool.{false≢true}
use Rattle.std.proofs.lemmas.Option.{same_Some}
use Rattle.emp_ast.specs.declared.model.Model.{Model}
use Rattle.emp_ast.specs.declared.annot.Annot.{Annot}
use Rattle.emp_command.specs.declared.words.Verb.{Verb}
use Rattle.emp_command.specs.declared.words.Verb.TheVariants.{Solve, Check, Print, Make, Migrate, Pieces}
use Rattle.emp_command.specs.Words.{Asked}
use Rattle.emp_command.specs.Course.{Outcome, refusal}
use Rattle.gms_grammar.specs.declared.fault.ModelFault.{ModelFault}
use Rattle.gms_grammar.specs.declared.fault.ModelFault.TheVariants as ModelWords
use Rattle.gms_read.specs.Texts.{IsModelText, HasFault, RefusesModel}
use Rattle.gms_read.proofs.OneMeaning.{one_model}
use Rattle.gms_print.specs.Canonical.{IsCanonical}
use Rattle.gms_print.proofs.OneText.{one_text}
use Rattle.info_read.specs.declared.fault.InfoFault.{InfoFault}
use Rattle.info_read.specs.declared.fault.InfoFault.TheVariants as InfoWords
use Rattle.info_read.specs.Texts.{IsInfoText, HasInfoFault, RefusesInfo}
use Rattle.info_read.proofs.OneText.{one_annotation}
use Rattle.info_print.specs.Canonical.{info_text}
use Rattle.emp_report.specs.TextLines.{not_yet_line, model_line, info_line}
use Rattle.emp_outcomes.specs.Outcomes.{saying, Solves, Checks, Migrates}
use Rattle.emp_outcome_laws.proofs.Answering.{one_answer}
use Rattle.emp_outcome_laws.proofs.Checking.{one_of_text}
use Rattle.emp_answers.specs.Answers.{is_built, Does, prints, solves, checks, migrates, Answers, unbuilt, bad_model, bad_info, done}
use Rattle.emp_engine.specs.Run.{IsAnswer, over_texts, market}
use Rattle.emp_engine.specs.Laws.{OneOutcome}
use Rattle.emp_engine.proofs.Whole.{distinct_names}

-- ---- what a verb answers over a model and an annotation
abbrev DoesBy : Model → Annot → Asked → List (List ℕ) → Outcome → Verb → Type 0
DoesBy m a r rest o Print = (t : List ℕ) × IsCanonical m t × (o ≡ saying 0 (t ++ info_text m a))
DoesBy m a r rest o Solve = Solves m a r o
DoesBy m a r rest o Check = (ct : List ℕ) × (rest ≡ ct ∷ []) × Checks m a ct o
DoesBy m a r rest o Migrate = (ct : List ℕ) × (name : List ℕ) × (rest ≡ ct ∷ []) × (r.output ≡ Some name) × Migrates m a ct name o
DoesBy m a r rest o Make = ⊥
DoesBy m a r rest o Pieces = ⊥

does_by : (m : Model) (a : Annot) (r : Asked) (rest : List (List ℕ)) (o : Outcome) → Does m a r rest o → DoesBy m a r rest o r.verb
does_by m a r rest o (prints t v c) = subst (DoesBy m a r rest o) (sym v) (t, c, refl)
does_by m a r rest o (solves p v h) = subst (DoesBy m a r rest o) (sym v) h
does_by m a r rest o (checks ct p v h) = subst (DoesBy m a r rest o) (sym v) (ct, refl, h)
does_by m a r rest o (migrates ct name p v n h) = subst (DoesBy m a r rest o) (sym v) (ct, name, refl, n, h)

head_of : (c d : List ℕ) → c ∷ [] ≡ d ∷ [] → c ≡ d
head_of c d e = cc

one_by : (m : Model) (a : Annot) (r : Asked) (rest : List (List ℕ)) (o p : Outcome) (v : Verb) → DoesBy m a r rest o v → DoesBy m a r rest p v → o ≡ p
one_by m a r rest o p Print h k = h.2 ∙ (ap (λ (t : List ℕ). saying 0 (t ++ info_text m a)) (one_text m h.0 k.0 h.1 k.1) ∙ sym k.2)
one_by m a r rest o p Solve h k = one_answer m a r o p h k
one_by m a r rest o p Check h k = one_of_text.check m a k.0 o p (subst (λ (ct : List ℕ). Checks m a ct o) (head_of h.0 k.0 (sym h.1 ∙ k.1)) h.2) k.2
one_by m a r rest o p Migrate h k =
    one_of_text.migrate m a k.0 k.1 o p
    (subst (λ (ct : List ℕ). Migrates m a ct k.1 o) (head_of h.0 k.0 (sym h.2 ∙ k.2)) (subst (λ (name : List ℕ). Migrates m a h.0 name o) (same_Some h.1 k.1 (sym h.3 ∙ k.3)) h.4))
    k.4
one_by m a r rest o p Make h k = absurd h
one_by m a r rest o p Pieces h k = absurd h

-- ---- what is answered over texts
record BadModel (mt : List ℕ) (o : Outcome) : Type 0 where
  fault : ModelFault
  has : HasFault mt fault
  is : o ≡ refusal 14 (model_line fault)

record BadInfo (it : List ℕ) (m : Model) (o : Outcome) : Type 0 where
  fault : InfoFault
  has : HasInfoFault it m fault
  is : o ≡ refusal 15 (info_line fault)

record IsDoneOver (it : List ℕ) (m : Model) (r : Asked) (rest : List (List ℕ)) (o : Outcome) : Type 0 where
  annot : Annot
  stands : IsInfoText it m annot
  does : Does m annot r rest o

record HasModel (mt it : List ℕ) (r : Asked) (rest : List (List ℕ)) (o : Outcome) : Type 0 where
  model : Model
  stands : IsModelText mt model
  info : BadInfo it model o ⊎ IsDoneOver it model r rest o

record Reads (r : Asked) (ts : List (List ℕ)) (o : Outcome) : Type 0 where
  built : is_built r ≡ true
  mt : List ℕ
  it : List ℕ
  rest : List (List ℕ)
  are : ts ≡ mt ∷ it ∷ rest
  model : BadModel mt o ⊎ HasModel mt it r rest o

abbrev AnswersBy : Asked → List (List ℕ) → Outcome → Type 0
AnswersBy r ts o = ((is_built r ≡ false) × (o ≡ refusal 30 not_yet_line)) ⊎ Reads r ts o

fault_of : (mt : List ℕ) (f : ModelFault) → f ≢ ModelWords.NoMemory → RefusesModel mt f → HasFault mt f
fault_of mt f n (inl e) = absurd (n e)
fault_of mt f n (inr h) = h

info_fault_of : (it : List ℕ) (m : Model) (f : InfoFault) → f ≢ InfoWords.NoMemory → RefusesInfo it m f → HasInfoFault it m f
info_fault_of it m f n (inl e) = absurd (n e)
info_fault_of it m f n (inr h) = h

answers_by : (r : Asked) (ts : List (List ℕ)) (o : Outcome) → Answers r ts o → AnswersBy r ts o
answers_by r ts o (unbuilt us h) = inl (h, refl)
answers_by r ts o (bad_model mt it rest f b n h) = inr (record { built = b; mt = mt; it = it; rest = rest; are = refl; model = inl (record { fault = f; has = fault_of mt f n h; is = refl }) })
answers_by r ts o (bad_info mt it rest m f b t n h) = inr (record { built = b; mt = mt; it = it; rest = rest; are = refl; model = inr (record { model = m; stands = t; info = inl (record { fault = f; has = info_fault_of it m f n h; is = refl }) }) })
answers_by r ts o (done mt it rest m a p b t i h) = inr (record { built = b; mt = mt; it = it; rest = rest; are = refl; model = inr (record { model = m; stands = t; info = inr (record { annot = a; stands = i; does = h }) }) })

one_info : (it : List ℕ) (m : Model) (r : Asked) (rest : List (List ℕ)) (o p : Outcome) (mt : List ℕ) → IsModelText mt m → BadInfo it m o ⊎ IsDoneOver it m r rest o → BadInfo it m p ⊎ IsDoneOver it m r rest p → o ≡ p
one_info it m r rest o p mt t (inl h) (inl k) = h.is ∙ (ap (λ (f : InfoFault). refusal 15 (info_line f)) (one_annotation.one_fault it m h.fault k.fault (distinct_names m mt t) h.has k.has) ∙ sym k.is)
one_info it m r rest o p mt t (inl h) (inr k) = absurd (one_annotation.not_both it m k.annot h.fault (distinct_names m mt t) k.stands h.has)
one_info it m r rest o p mt t (inr h) (inl k) = absurd (one_annotation.not_both it m h.annot k.fault (distinct_names m mt t) h.stands k.has)
one_info it m r rest o p mt t (inr h) (inr k) =
    let same : h.annot ≡ k.annot = one_annotation.one it m h.annot k.annot (distinct_names m mt t) h.stands k.stands in
    one_by m k.annot r rest o p r.verb (does_by m k.annot r rest o (subst (λ (a : Annot). Does m a r rest o) same h.does)) (does_by m k.annot r rest p k.does)

one_over : (mt it : List ℕ) (r : Asked) (rest : List (List ℕ)) (o p : Outcome) → BadModel mt o ⊎ HasModel mt it r rest o → BadModel mt p ⊎ HasModel mt it r rest p → o ≡ p
one_over mt it r rest o p (inl h) (inl k) = h.is ∙ (ap (λ (f : ModelFault). refusal 14 (model_line f)) (one_model.one_fault mt h.fault k.fault h.has k.has) ∙ sym k.is)
one_over mt it r rest o p (inl h) (inr k) = absurd (one_model.not_both mt k.model h.fault k.stands h.has)
one_over mt it r rest o p (inr h) (inl k) = absurd (one_model.not_both mt h.model k.fault h.stands k.has)
one_over mt it r rest o p (inr h) (inr k) =
    let same : h.model ≡ k.model = one_model.one mt h.model k.model h.stands k.stands in
    one_info it k.model r rest o p mt k.stands (subst (λ (m : Model). BadInfo it m o ⊎ IsDoneOver it m r rest o) same h.info) k.info

record SameTexts (mt it nt jt : List ℕ) (rest more : List (List ℕ)) : Type 0 where
  model : mt ≡ nt
  info : it ≡ jt
  others : rest ≡ more

same_texts : (mt it nt jt : List ℕ) (rest more : List (List ℕ)) → mt ∷ it ∷ rest ≡ nt ∷ jt ∷ more → SameTexts mt it nt jt rest more
same_texts mt it nt jt rest more e = record { model = cc; info = cc; others = cc }

one_reading : (r : Asked) (ts : List (List ℕ)) (o p : Outcome) → Reads r ts o → Reads r ts p → o ≡ p
one_reading r ts o p h k =
    let s = same_texts h.mt h.it k.mt k.it h.rest k.rest (sym h.are ∙ k.are) in
    one_over k.mt k.it r k.rest o p
    (subst (λ (us : List (List ℕ)). BadModel k.mt o ⊎ HasModel k.mt k.it r us o) s.others
    (subst (λ (t : List ℕ). BadModel k.mt o ⊎ HasModel k.mt t r h.rest o) s.info (subst (λ (t : List ℕ). BadModel t o ⊎ HasModel t h.it r h.rest o) s.model h.model)))
    k.model

answers_one : (r : Asked) (ts : List (List ℕ)) (o p : Outcome) → AnswersBy r ts o → AnswersBy r ts p → o ≡ p
answers_one r ts o p (inl h) (inl k) = h.1 ∙ sym k.1
answers_one r ts o p (inl h) (inr k) = absurd (false≢true (sym h.0 ∙ k.built))
answers_one r ts o p (inr h) (inl k) = absurd (false≢true (sym k.0 ∙ h.built))
answers_one r ts o p (inr h) (inr k) = one_reading r ts o p h k

of_texts : (r : Asked) (ts : List (List ℕ)) (o : Outcome) → r.verb ≢ Make → IsAnswer r ts o → AnswersBy r ts o
of_texts r ts o n (over_texts us p h) = answers_by r us p h
of_texts r ts o n (market p v h) = absurd (n v)

pub one_outcome : OneOutcome
one_outcome r ts o p n h k = answers_one r ts o p (of_texts r ts o n h) (of_texts r ts p n k)
