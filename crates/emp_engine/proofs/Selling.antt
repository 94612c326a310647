-- What the clauses on `make` say, from what was answered.
use Rattle.std.proofs.Common.{◌≡◌, ◌≢◌, ℕ, ◌⊎◌, inl, inr, true, List, [], ◌∷◌, ◌++◌, length, map, codes, Option, Some, None, arith, sym, ap, subst, ◌∙◌, length-append}
use Rattle.std.proofs.lemmas.Bool.{false≢true}
use Rattle.emp_desk.specs.Desk.{Contents, Says}
use Rattle.emp_ast.specs.declared.model.Model.{Model}
use Rattle.emp_ast.specs.declared.annot.Annot.{Annot}
use Rattle.emp_command.specs.declared.words.Verb.TheVariants.{Solve, Check, Print, Make, Migrate}
use Rattle.emp_command.specs.Words.{Asked}
use Rattle.emp_command.specs.Course.{Outcome, StoresAll}
use Rattle.emp_answers.specs.Answers.{is_built_for, is_built, Answers, unbuilt, bad_model, bad_info, done, Does, prints, solves, checks, migrates}
use Rattle.emp_makes.specs.Makes.{summary, Saves, Makes}
use Rattle.emp_makes.proofs.Ends.{made_shows}
use Rattle.emp_engine.specs.Run.{IsMake, IsAnswer, over_texts, market, IsAnswered, HoldsMarket, ShowsMarket}
use Rattle.emp_engine.proofs.Verbs.{make_verb}
use Rattle.emp_engine.proofs.Saying.{market_files}
use Rattle.emp_engine.proofs.Verbs.{solve_not_make, print_not_make, check_not_make, migrate_not_make}
use Rattle.emp_engine.proofs.Headline.{not_verbs, grows, made_status}

made_built : (r : Asked) → r.verb ≡ Make → is_built r ≡ true
made_built r e = ap is_built_for e

no_does : (m : Model) (a : Annot) (r : Asked) (rest : List (List ℕ)) (o : Outcome) → r.verb ≡ Make → Does m a r rest o → ⊥
no_does m a r rest o e (prints t v c) = print_not_make (not_verbs r.verb Print Make v e)
no_does m a r rest o e (solves p v h) = solve_not_make (not_verbs r.verb Solve Make v e)
no_does m a r rest o e (checks ct p v h) = check_not_make (not_verbs r.verb Check Make v e)
no_does m a r rest o e (migrates ct name p v n h) = migrate_not_make (not_verbs r.verb Migrate Make v e)

some_texts : (mt it : List ℕ) (rest : List (List ℕ)) → mt ∷ it ∷ rest ≡ [] → ⊥
some_texts mt it rest e = cc

texts_not : (r : Asked) (ts : List (List ℕ)) (o : Outcome) → r.verb ≡ Make → ts ≡ [] → Answers r ts o → ⊥
texts_not r ts o v e (unbuilt us h) = false≢true (sym h ∙ made_built r v)
texts_not r ts o v e (bad_model mt it rest f b n h) = some_texts mt it rest e
texts_not r ts o v e (bad_info mt it rest m f b t n h) = some_texts mt it rest e
texts_not r ts o v e (done mt it rest m a p b t i h) = some_texts mt it rest e

makes_of : (r : Asked) (ts : List (List ℕ)) (o : Outcome) → r.verb ≡ Make → ts ≡ [] → IsAnswer r ts o → Makes r o
makes_of r ts o v e (over_texts us p h) = absurd (texts_not r us p v e h)
makes_of r ts o v e (market p w h) = h

-- ---- the files
ends_differ : (name : List ℕ) → name ++ codes ".gms" ≢ name ++ codes ".info"
ends_differ name e =
    let l = ap length e in
    let f = length-append name (codes ".gms") in
    let g = length-append name (codes ".info") in
    omega (arith, l, f, g)

holds_market : (m : Model) (a : Annot) (o : Option (List ℕ)) (ss : List (List ℕ × List ℕ)) (says : List ℕ) (x b y : Contents) → Saves m a o ss → StoresAll ss x b → Says says b y → HoldsMarket m a o y
holds_market m a None ss says x b y h st sa = tt
holds_market m a (Some name) ss says x b y h st sa =
    let s = subst (λ (l : List (List ℕ × List ℕ)). StoresAll l x b) h.2 st in
    let gms = name ++ codes ".gms" in
    let info = name ++ codes ".info" in
    (h.0, h.1, sa.files gms ∙ (s.2.2.files gms ∙ (s.2.1.others gms (ends_differ name) ∙ s.1.here)), sa.files info ∙ (s.2.2.files info ∙ s.2.1.here))

module _ (words : List (List ℕ)) (x y : Contents) (end : ℕ) (n : IsAnswered words x y end) (v : n.request.verb ≡ Make) where
  makes_now : Makes n.request n.outcome
  makes_now = makes_of n.request (map x.holds n.request.files) n.outcome v (ap (map x.holds) (market_files words n.request n.asked v)) n.answers

  pub shows_market : end ≡ 0 → ShowsMarket words x y
  shows_market z =
      let h = made_shows n.request n.outcome makes_now (n.is ∙ z) in
      record {
        request = n.request;
        asked = n.asked;
        model = h.model;
        annot = h.annot;
        market = h.market;
        values = h.values;
        point = h.point;
        stands = h.stands;
        equilibrium = h.equilibrium;
        output = h.output;
        profit = h.profit;
        outputs = h.outputs;
        profits = h.profits;
        said = grows words x y end n (summary n.request.firms h.output h.profit) h.says;
        saved = holds_market h.model h.annot n.request.output n.outcome.stores n.outcome.says x n.between y h.stores n.stored n.said;
      }

pub either_made : (words : List (List ℕ)) (x y : Contents) (end : ℕ) → IsMake words → (end ≡ 21) ⊎ IsAnswered words x y end → (end ≡ 21) ⊎ ((end ≡ 0) ⊎ ((end ≡ 19) ⊎ (end ≡ 20)))
either_made words x y end w (inl e) = inl e
either_made words x y end w (inr n) = let v = make_verb words n.request w n.asked in inr (made_status words x y end n v (makes_now words x y end n v))
