-- What an answer over texts comes to.
use Rattle.std.proofs.Common.{◌≡◌, ◌≢◌, ℕ, ◌<◌, ◌≤◌, true, false, List, [], ◌∷◌, length, Some, Result, IfOk, get_or, arith, subst, sym, ap₂, ◌∙◌}
use Rattle.emp_list.specs.declared.memory.NoMemory.{NoMemory}
use Rattle.emp_ast.specs.declared.model.Model.{Model}
use Rattle.emp_ast.specs.declared.annot.Annot.{Annot}
use Rattle.gms_read.specs.Texts.{IsModelText, RefusesModel}
use Rattle.gms_grammar.specs.declared.fault.ModelFault.{ModelFault}
use Rattle.gms_grammar.specs.declared.fault.ModelFault.TheVariants as ModelWords
use Rattle.gms_print.specs.ReadsBack.{HasText}
use Rattle.gms_print.proofs.Soundness.{sound_model}
use Rattle.info_read.specs.Texts.{IsInfoText, RefusesInfo}
use Rattle.info_read.specs.declared.fault.InfoFault.{InfoFault}
use Rattle.info_read.specs.declared.fault.InfoFault.TheVariants as InfoWords
use Rattle.emp_answers.proofs.Fitting.{annotations_fit, goals_fit}
use Rattle.emp_answers.proofs.Blocks.{blocks_fit}
use Rattle.emp_problem.specs.Class.{AnnotFits, GoalFits}
use Rattle.emp_command.specs.declared.words.Verb.TheVariants.{Solve, Check, Print, Migrate}
use Rattle.emp_command.specs.Words.{Asked}
use Rattle.emp_command.specs.Course.{Outcome, refusal}
use Rattle.emp_report.specs.TextLines.{not_yet_line, model_line, info_line}
use Rattle.emp_outcomes.specs.declared.said.Answer.{Answer}
use Rattle.emp_outcomes.specs.Outcomes.{Solves, Checks, Migrates}
use Rattle.emp_answers.specs.Answers.{is_built, Does, prints, solves, checks, migrates, Answers, unbuilt, bad_model, bad_info, done}
use Rattle.emp_outcomes.specs.Steps.{outcome_of}
use Rattle.emp_answers.specs.Steps.{Prints, OverInfo, refuses, reads}
use Rattle.emp_outcomes.proofs.Oks.{ok_map}

-- ---- what texts keep
pub has_text : (text : List ℕ) (m : Model) → IsModelText text m → HasText m
has_text text m t = record { text = text; is = t }

pub few_variables : (text : List ℕ) (m : Model) → IsModelText text m → length m.variables < 4294967296
few_variables text m t = omega (arith, (sound_model m (has_text text m t)).few_variables)

pub few_equations : (text : List ℕ) (m : Model) → IsModelText text m → length m.equations < 4294967296
few_equations text m t = omega (arith, (sound_model m (has_text text m t)).few_equations)

pub goal_fits : (text : List ℕ) (m : Model) → IsModelText text m → GoalFits m
goal_fits text m t = goals_fit m (has_text text m t)

pub few_blocks : (text : List ℕ) (m : Model) (a : Annot) → length text ≤ 1048576 → IsInfoText text m a → length a.blocks < 4294967296
few_blocks text m a h t = omega (arith, h, blocks_fit text m a t)

pub annot_fits : (text : List ℕ) (m : Model) (a : Annot) → IsInfoText text m a → AnnotFits m a
annot_fits text m a t = annotations_fit text m a t

-- ---- what a verb answers
module _ (x : Result Answer NoMemory) (m : Model) (a : Annot) (r : Asked) (rest : List (List ℕ)) where
  abbrev DoesIt : Answer → Type 0
  DoesIt s = Does m a r rest (outcome_of s)

  print_one : (s : Answer) → r.verb ≡ Print → rest ≡ [] → Prints m a (outcome_of s) → DoesIt s
  print_one s v e p = subst (λ ts. Does m a r ts (outcome_of s)) (sym e) (subst (Does m a r []) (sym p.is) (prints p.text v p.canonical))

  pub print_does : r.verb ≡ Print → rest ≡ [] → IfOk x (λ s. Prints m a (outcome_of s)) → IfOk x DoesIt
  print_does v e p = ok_map x (λ s. Prints m a (outcome_of s)) DoesIt (λ s h. print_one s v e h) p

  pub solve_does : r.verb ≡ Solve → rest ≡ [] → IfOk x (λ s. Solves m a r (outcome_of s)) → IfOk x DoesIt
  solve_does v e p = ok_map x (λ s. Solves m a r (outcome_of s)) DoesIt (λ s h. subst (λ ts. Does m a r ts (outcome_of s)) (sym e) (solves (outcome_of s) v h)) p

  pub check_does : (ct : List ℕ) → r.verb ≡ Check → rest ≡ ct ∷ [] → IfOk x (λ s. Checks m a ct (outcome_of s)) → IfOk x DoesIt
  check_does ct v e p = ok_map x (λ s. Checks m a ct (outcome_of s)) DoesIt (λ s h. subst (λ ts. Does m a r ts (outcome_of s)) (sym e) (checks ct (outcome_of s) v h)) p

  pub migrate_does : (ct name : List ℕ) → r.verb ≡ Migrate → r.output ≡ Some name → rest ≡ ct ∷ [] → IfOk x (λ s. Migrates m a ct name (outcome_of s)) → IfOk x DoesIt
  migrate_does ct name v n e p = ok_map x (λ s. Migrates m a ct name (outcome_of s)) DoesIt (λ s h. subst (λ ts. Does m a r ts (outcome_of s)) (sym e) (migrates ct name (outcome_of s) v n h)) p

-- ---- what is answered over texts
module _ (x : Result Answer NoMemory) (r : Asked) (rest : List (List ℕ)) where
  pub info_answer : (m : Model) (it : List ℕ) (f : InfoFault) → RefusesInfo it m f → IfOk x (λ s. (f ≢ InfoWords.NoMemory) × (outcome_of s ≡ refusal 15 (info_line f))) → IfOk x (λ s. OverInfo r m it rest (outcome_of s))
  info_answer m it f b p = ok_map x (λ s. (f ≢ InfoWords.NoMemory) × (outcome_of s ≡ refusal 15 (info_line f))) (λ s. OverInfo r m it rest (outcome_of s)) (λ s h. refuses f h.0 b h.1) p

  pub read_answer : (m : Model) (it : List ℕ) (a : Annot) → IsInfoText it m a → IfOk x (λ s. Does m a r rest (outcome_of s)) → IfOk x (λ s. OverInfo r m it rest (outcome_of s))
  read_answer m it a i p = ok_map x (λ s. Does m a r rest (outcome_of s)) (λ s. OverInfo r m it rest (outcome_of s)) (λ s h. reads a i h) p

  pub model_answer : (mt it : List ℕ) (f : ModelFault) → is_built r ≡ true → RefusesModel mt f → IfOk x (λ s. (f ≢ ModelWords.NoMemory) × (outcome_of s ≡ refusal 14 (model_line f))) → IfOk x (λ s. Answers r (mt ∷ it ∷ rest) (outcome_of s))
  model_answer mt it f built b p = ok_map x (λ s. (f ≢ ModelWords.NoMemory) × (outcome_of s ≡ refusal 14 (model_line f))) (λ s. Answers r (mt ∷ it ∷ rest) (outcome_of s)) (λ s h. subst (Answers r (mt ∷ it ∷ rest)) (sym h.1) (bad_model mt it rest f built h.0 b)) p

  over_one : (mt it : List ℕ) (m : Model) (o : Outcome) → is_built r ≡ true → IsModelText mt m → OverInfo r m it rest o → Answers r (mt ∷ it ∷ rest) o
  over_one mt it m o built t (refuses f n h e) = subst (Answers r (mt ∷ it ∷ rest)) (sym e) (bad_info mt it rest m f built t n h)
  over_one mt it m o built t (reads a i d) = done mt it rest m a o built t i d

  pub text_answer : (mt it : List ℕ) (m : Model) → is_built r ≡ true → IsModelText mt m → IfOk x (λ s. OverInfo r m it rest (outcome_of s)) → IfOk x (λ s. Answers r (mt ∷ it ∷ rest) (outcome_of s))
  text_answer mt it m built t p = ok_map x (λ s. OverInfo r m it rest (outcome_of s)) (λ s. Answers r (mt ∷ it ∷ rest) (outcome_of s)) (λ s h. over_one mt it m (outcome_of s) built t h) p

-- the one text behind the model's and the annotation's
pub rest_is : (rest : List (List ℕ)) (ct at seen : List ℕ) → rest ≡ ct ∷ [] → at ≡ get_or rest 0 at → seen ≡ at → rest ≡ seen ∷ []
rest_is rest ct at seen e i s = go rest e i
  where
    go : (ts : List (List ℕ)) → ts ≡ ct ∷ [] → at ≡ get_or ts 0 at → ts ≡ seen ∷ []
    go [] f j = cc
    go (t ∷ ts) f j = let k : ts ≡ [] = cc in ap₂ (λ x xs. x ∷ xs) (sym j ∙ sym s) k

pub not_built : (r : Asked) (texts : List (List ℕ)) (o : Outcome) → is_built r ≡ false → o ≡ refusal 30 not_yet_line → Answers r texts o
not_built r texts o h e = subst (Answers r texts) (sym e) (unbuilt texts h)

pub ruleset answering = (few_variables, few_equations, few_blocks, has_text, goal_fits, annot_fits)
