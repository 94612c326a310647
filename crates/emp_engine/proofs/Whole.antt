-- What is answered over two texts that stand for a model and an annotation of it.
use Rattle.std.proofs.Common.{◌≡◌, ◌≢◌, ℕ, zero, suc, ◌+◌, ◌<◌, ◌⊎◌, inl, inr, List, [], ◌∷◌, ◌++◌, length, map, AllPairs, slice_index_or, arith, refl, sym, ap, subst, ◌∙◌, length-append, append_assoc}
use Rattle.std.proofs.lemmas.Bool.{false≢true}
use Rattle.emp_list.specs.Case.{SameName, lower}
use Rattle.emp_ast.specs.declared.model.Model.{Model}
use Rattle.emp_ast.specs.declared.annot.Annot.{Annot}
use Rattle.emp_ast.specs.Names.{variable_names, equation_names}
use Rattle.emp_desk.specs.Desk.{Contents}
use Rattle.emp_command.specs.Words.{Asked, Asks}
use Rattle.emp_command.specs.Course.{Outcome}
use Rattle.gms_grammar.specs.declared.fault.ModelFault.TheVariants as ModelWords
use Rattle.gms_grammar.specs.declared.fault.ModelFault.{ModelFault}
use Rattle.gms_read.specs.Texts.{IsModelText, RefusesModel}
use Rattle.gms_read.proofs.OneMeaning.{one_model}
use Rattle.gms_print.proofs.Soundness.{sound_model}
use Rattle.info_read.specs.declared.fault.InfoFault.TheVariants as InfoWords
use Rattle.info_read.specs.declared.fault.InfoFault.{InfoFault}
use Rattle.info_read.specs.Texts.{IsInfoText, HasInfoFault, RefusesInfo}
use Rattle.info_read.specs.Laws.{AreDistinct, HasDistinctNames}
use Rattle.info_read.proofs.OneText.{one_annotation}
use Rattle.emp_answers.specs.Answers.{Does, Answers, unbuilt, bad_model, bad_info, done}
use Rattle.emp_engine.specs.Run.{IsAnswer, over_texts, market, IsAnswered, IsDone, NamesTexts}

-- ---- names of a model that a text stands for
front_at : (xs ys : List (List ℕ)) (i : ℕ) → i < length xs → slice_index_or (xs ++ ys) i [] ≡ slice_index_or xs i []
front_at [] ys i h = absurd (omega arith)
front_at (x ∷ xs) ys zero h = refl
front_at (x ∷ xs) ys (suc i) h = front_at xs ys i (omega arith)

middle_at : (ps xs ys : List (List ℕ)) (i n : ℕ) → n ≡ length ps + i → i < length xs → slice_index_or (ps ++ (xs ++ ys)) n [] ≡ slice_index_or xs i []
middle_at [] xs ys i n e h = ap (λ k. slice_index_or (xs ++ ys) k []) (let f : n ≡ i = omega (arith, e) in f) ∙ front_at xs ys i h
middle_at (p ∷ ps) xs ys i zero e h = absurd (omega (arith, e))
middle_at (p ∷ ps) xs ys i (suc n) e h = middle_at ps xs ys i n (omega (arith, e)) h

abbrev Apart : List (List ℕ) → Type 0
Apart ns = AllPairs (λ a b. lower a ≢ lower b) ns

apart_below : (ps xs ys : List (List ℕ)) (j k : ℕ) → Apart (ps ++ (xs ++ ys)) → length (ps ++ (xs ++ ys)) ≡ length ps + (length xs + length ys) → j < k → k < length xs → SameName (slice_index_or xs j []) (slice_index_or xs k []) → ⊥
apart_below ps xs ys j k a n l h s =
    a (length ps + j) (length ps + k) [] (omega arith) (omega (arith, n, h))
    (ap lower (middle_at ps xs ys j (length ps + j) refl (omega arith)) ∙ (s ∙ sym (ap lower (middle_at ps xs ys k (length ps + k) refl h))))

apart_distinct : (ps xs ys : List (List ℕ)) → Apart (ps ++ (xs ++ ys)) → length (ps ++ (xs ++ ys)) ≡ length ps + (length xs + length ys) → AreDistinct xs
apart_distinct ps xs ys a n j k l h s = go (order j k)
  where
    order : (j k : ℕ) → (j ≡ k) ⊎ ((j < k) ⊎ (k < j))
    order j k = grind arith

    go : (j ≡ k) ⊎ ((j < k) ⊎ (k < j)) → j ≡ k
    go (inl e) = e
    go (inr (inl b)) = absurd (apart_below ps xs ys j k a n b h s)
    go (inr (inr b)) = absurd (apart_below ps xs ys k j a n b l (sym s))

split_length : (ps xs ys : List (List ℕ)) → length (ps ++ (xs ++ ys)) ≡ length ps + (length xs + length ys)
split_length ps xs ys = length-append ps (xs ++ ys) ∙ ap (λ n. length ps + n) (length-append xs ys)

pub distinct_names : (m : Model) (text : List ℕ) → IsModelText text m → HasDistinctNames m
distinct_names m text t =
    let s = sound_model m (record { text = text; is = t }) in
    let e : variable_names m ++ equation_names m ++ m.name ∷ [] ≡ variable_names m ++ (equation_names m ++ m.name ∷ []) = append_assoc (variable_names m) (equation_names m) (m.name ∷ []) in
    let a : Apart (variable_names m ++ (equation_names m ++ m.name ∷ [])) = subst Apart e s.apart in
    record {
      variables = apart_distinct [] (variable_names m) (equation_names m ++ m.name ∷ []) a (split_length [] (variable_names m) (equation_names m ++ m.name ∷ []));
      equations = apart_distinct (variable_names m) (equation_names m) (m.name ∷ []) a (split_length (variable_names m) (equation_names m) (m.name ∷ []));
    }

-- ---- the answer
module _ (x : Contents) (r : Asked) (m : Model) (a : Annot) (t : NamesTexts r x m a) where
  record First (mt it : List ℕ) (rest : List (List ℕ)) : Type 0 where
    model_is : mt ≡ x.holds t.model_file
    info_is : it ≡ x.holds t.info_file
    rest_is : rest ≡ map x.holds t.others

  first : (mt it : List ℕ) (rest : List (List ℕ)) → mt ∷ it ∷ rest ≡ map x.holds r.files → First mt it rest
  first mt it rest e = go (e ∙ ap (map x.holds) t.files)
    where
      go : mt ∷ it ∷ rest ≡ x.holds t.model_file ∷ x.holds t.info_file ∷ map x.holds t.others → First mt it rest
      go f = record { model_is = cc; info_is = cc; rest_is = cc }

  no_model_fault : (mt : List ℕ) (f : ModelFault) → mt ≡ x.holds t.model_file → f ≢ ModelWords.NoMemory → RefusesModel mt f → ⊥
  no_model_fault mt f e n (inl h) = n h
  no_model_fault mt f e n (inr h) = one_model.not_both mt m f (subst (λ bs. IsModelText bs m) (sym e) t.model) h

  one_model_is : (mt : List ℕ) (k : Model) → mt ≡ x.holds t.model_file → IsModelText mt k → k ≡ m
  one_model_is mt k e h = one_model.one mt k m h (subst (λ bs. IsModelText bs m) (sym e) t.model)

  names : HasDistinctNames m
  names = distinct_names m (x.holds t.model_file) t.model

  no_info_fault : (it : List ℕ) (k : Model) (f : InfoFault) → it ≡ x.holds t.info_file → k ≡ m → f ≢ InfoWords.NoMemory → RefusesInfo it k f → ⊥
  no_info_fault it k f e g n (inl h) = n h
  no_info_fault it k f e g n (inr h) = one_annotation.not_both it m a f names (subst (λ bs. IsInfoText bs m a) (sym e) t.info) (subst (λ j. HasInfoFault it j f) g h)

  one_info_is : (it : List ℕ) (b : Annot) → it ≡ x.holds t.info_file → IsInfoText it m b → b ≡ a
  one_info_is it b e h = one_annotation.one it m b a names h (subst (λ bs. IsInfoText bs m a) (sym e) t.info)

  does_whole : (o : Outcome) (mt it : List ℕ) (rest : List (List ℕ)) (k : Model) (b : Annot) → First mt it rest → IsModelText mt k → IsInfoText it k b → Does k b r rest o → Does m a r (map x.holds t.others) o
  does_whole o mt it rest k b f km ki h =
      let g = one_model_is mt k f.model_is km in
      let e = one_info_is it b f.info_is (subst (λ j. IsInfoText it j b) g ki) in
      subst (λ rs. Does m a r rs o) f.rest_is (subst (λ c. Does m c r rest o) e (subst (λ j. Does j b r rest o) g h))

  answers_does : (ts : List (List ℕ)) (o : Outcome) → ts ≡ map x.holds r.files → Answers r ts o → Does m a r (map x.holds t.others) o
  answers_does ts o e (unbuilt us h) = absurd (false≢true (sym h ∙ t.built))
  answers_does ts o e (bad_model mt it rest f b n h) = absurd (no_model_fault mt f (first mt it rest e).model_is n h)
  answers_does ts o e (bad_info mt it rest k f b km n h) =
      let g = first mt it rest e in
      absurd (no_info_fault it k f g.info_is (one_model_is mt k g.model_is km) n h)
  answers_does ts o e (done mt it rest k b p w km ki h) = does_whole p mt it rest k b (first mt it rest e) km ki h

  some_files : (h : List ℕ) (hs : List (List ℕ)) (fs : List (List ℕ)) → fs ≡ h ∷ hs → [] ≡ map x.holds fs → ⊥
  some_files h hs [] e g = cc
  some_files h hs (f ∷ fs) e g = cc

  answer_does : (ts : List (List ℕ)) (o : Outcome) → ts ≡ map x.holds r.files → IsAnswer r ts o → Does m a r (map x.holds t.others) o
  answer_does ts o e (over_texts us p h) = answers_does us p e h
  answer_does ts o e (market p v h) = absurd (some_files t.model_file (t.info_file ∷ t.others) r.files t.files e)

-- what the verb did over the two
pub does_now : (words : List (List ℕ)) (x y : Contents) (end : ℕ) (m : Model) (a : Annot) (all : (r : Asked) → Asks words r → NamesTexts r x m a) (n : IsAnswered words x y end) → Does m a n.request (map x.holds (all n.request n.asked).others) n.outcome
does_now words x y end m a all n = answer_does x n.request m a (all n.request n.asked) (map x.holds n.request.files) n.outcome refl n.answers

pub is_done : (words : List (List ℕ)) (x y : Contents) (end : ℕ) (m : Model) (a : Annot) → ((r : Asked) → Asks words r → NamesTexts r x m a) → IsAnswered words x y end → IsDone words m a x y end
is_done words x y end m a all n =
    let t = all n.request n.asked in
    record {
      request = n.request;
      asked = n.asked;
      model_file = t.model_file;
      info_file = t.info_file;
      others = t.others;
      files = t.files;
      outcome = n.outcome;
      does = does_now words x y end m a all n;
      is = n.is;
      between = n.between;
      stored = n.stored;
      said = n.said;
    }

pub either_done : (words : List (List ℕ)) (x y : Contents) (end : ℕ) (m : Model) (a : Annot) → ((r : Asked) → Asks words r → NamesTexts r x m a) → (end ≡ 21) ⊎ IsAnswered words x y end → (end ≡ 21) ⊎ IsDone words m a x y end
either_done words x y end m a all (inl e) = inl e
either_done words x y end m a all (inr n) = inr (is_done words x y end m a all n)
