-- What solves a file solves its game, and the other way.
use Rattle.std.proofs.Common.{◌≡◌, ◌↔◌, ℕ, ◌<◌, ℤ, ◌*ℤ◌, Bool, true, false, length, refl, sym, subst, ◌∙◌}
use Rattle.std.proofs.lemmas.Bool.{false≢true}
use Rattle.emp_num.specs.Ratio.{ratio}
use Rattle.emp_num.specs.Point.{Point}
use Rattle.emp_ast.specs.declared.model.Model.{Model}
use Rattle.emp_ast.specs.declared.annot.Annot.{Annot}
use Rattle.emp_ast.specs.Rivals.{Fits, MeetsDefinitions}
use Rattle.emp_ast.specs.Solved.{IsSolved}
use Rattle.emp_ast.specs.Equilibrium.{IsEquilibrium}
use Rattle.emp_ast.specs.Bilevel.{IsBetterForLeader}
use Rattle.emp_game.specs.Solved as Play
use Rattle.emp_split.specs.Games.{Game, coordinates, EachPlayer}
use Rattle.emp_split.specs.Meaning.{LeaderObeys, IsAdmissible, IsBetter}
use Rattle.emp_problem.specs.GameOf.{IsGameOf}
use Rattle.emp_problem.specs.Class.{IsClassFile, SolvesBy, SolvesFile}
use Rattle.emp_meaning.specs.Laws.{left_nums, GameSolvesFile, FileSolvesGame, OrdersAgree, CoordinatesFill, GamesAreWellMade}
use Rattle.emp_meaning.proofs.Places.{places}
use Rattle.emp_meaning.proofs.Owners.{player_owners}
use Rattle.emp_meaning.proofs.Values.{values}
use Rattle.emp_meaning.proofs.WellMade.{well_made}
use Rattle.emp_meaning.proofs.Filling.{fills}
use Rattle.emp_meaning.proofs.Move.{left_count, range_count}
use Rattle.emp_meaning.proofs.MoveGame.{all_solved_down, all_solved_up}
use Rattle.emp_meaning.proofs.Prices.{AreTied, prices_down, prices_up}
use Rattle.emp_meaning.proofs.Leading.{led, not_led, leads_down, leads_up, better_same}

module _ (n : ℤ) (m : Model) (a : Annot) (g : Game) (t : AreTied n m a g) where
  -- ---- equilibria
  count_is : (p : Point) → length (left_nums m a p) ≡ coordinates g
  count_is p = left_count m a p ∙ sym (range_count m a g.ranges t.game.ranges)

  equilibrium_down : (p : Point) → IsEquilibrium m a p → LeaderObeys g g.leader p.den (left_nums m a p) → IsAdmissible g p.den (left_nums m a p)
  equilibrium_down p h leads =
      let priced = prices_down n m a g t p h.choice h.fits h.prices in
      record {
        count = count_is p;
        leads = leads;
        solved = all_solved_down n m a g t.class t.game t.places t.values t.owners p h.solved;
        times = priced.times;
        number = priced.number;
        prices = priced.prices;
      }

  solved_up : (p : Point) → Fits m p → MeetsDefinitions m a p → EachPlayer (λ k pl. Play.IsSolved g.ranges pl p.den (left_nums m a p)) 0 g.players → (k : ℕ) → k < length a.blocks → IsSolved m a k p
  solved_up p f def h = all_solved_up n m a g t.class t.game t.places t.values t.owners p def.blocks f h

  equilibrium_up : (p : Point) → Fits m p → MeetsDefinitions m a p → IsAdmissible g p.den (left_nums m a p) → IsEquilibrium m a p
  equilibrium_up p f def h = record {
    fits = f;
    solved = solved_up p f def h.solved;
    choice = λ k e. ratio (h.number k e) (h.times *ℤ p.den);
    prices = prices_up n m a g t p h.times h.number f h.prices (λ k l. (solved_up p f def h.solved k l).feasible.deviation);
  }

  -- ---- files
  pub file_solves : (p : Point) → SolvesFile m a p → MeetsDefinitions m a p × IsAdmissible g p.den (left_nums m a p)
  file_solves p h = go a.bilevel refl h
    where
      go : (b : Bool) → a.bilevel ≡ b → SolvesBy b m a p → MeetsDefinitions m a p × IsAdmissible g p.den (left_nums m a p)
      go false s e = (
        record { blocks = λ k l. (e.solved k l).feasible.deviation.definition; leads = λ w. absurd (false≢true (sym s ∙ w)) },
        equilibrium_down p e (subst (λ o. LeaderObeys g o p.den (left_nums m a p)) (sym (not_led n m a g s t.game.leads)) tt),
      )
      go true s e =
          let x = led n m a g s t.game.leads in (
            record { blocks = λ k l. (e.follows.solved k l).feasible.deviation.definition; leads = λ w. e.leads.deviation.definition },
            equilibrium_down p e.follows (subst (λ o. LeaderObeys g o p.den (left_nums m a p)) (sym x.at) (leads_down n m a g t s x.led x.is p e.follows.fits e.leads)),
          )

  pub game_solves : (p : Point) → Fits m p → MeetsDefinitions m a p → IsAdmissible g p.den (left_nums m a p) → SolvesFile m a p
  game_solves p f def h = go a.bilevel refl
    where
      go : (b : Bool) → a.bilevel ≡ b → SolvesBy b m a p
      go false s = equilibrium_up p f def h
      go true s =
          let x = led n m a g s t.game.leads in
          record { leads = leads_up n m a g t s x.led x.is p f (def.leads s) (subst (λ o. LeaderObeys g o p.den (left_nums m a p)) x.at h.leads); follows = equilibrium_up p f def h }

-- in a bilevel file the leader's order is that of the game
pub orders_are_one : (n : ℤ) (m : Model) (a : Annot) (g : Game) → AreTied n m a g → a.bilevel ≡ true → (p q : Point) → Fits m p → Fits m q → MeetsDefinitions m a p → MeetsDefinitions m a q → IsBetter g.leader p.den (left_nums m a p) q.den (left_nums m a q) ↔ IsBetterForLeader m a p q
orders_are_one n m a g t s p q f fq def defq =
    let x = led n m a g s t.game.leads in
    subst (λ o. IsBetter o p.den (left_nums m a p) q.den (left_nums m a q) ↔ IsBetterForLeader m a p q) (sym x.at) (better_same n m a g t s x.led x.is p q f fq (def.leads s) (defq.leads s))

-- ---- the laws
tied_game : (n : ℤ) (m : Model) (a : Annot) (g : Game) → IsClassFile m a → IsGameOf n m a g → AreTied n m a g
tied_game n m a g class game = record { class = class; game = game; places = places m a class; values = values n m a class game.positive; owners = λ k b pl at of. player_owners n m a class k b pl at of }

pub game_solves_file : GameSolvesFile
game_solves_file n m a g p class game f def h = game_solves n m a g (tied_game n m a g class game) p f def h

pub file_solves_game : FileSolvesGame
file_solves_game n m a g p class game h = file_solves n m a g (tied_game n m a g class game) p h

pub orders_agree : OrdersAgree
orders_agree n m a g p q class game s f fq def defq = orders_are_one n m a g (tied_game n m a g class game) s p q f fq def defq

pub coordinates_fill : CoordinatesFill
coordinates_fill m a d xs class above count = fills m a class (places m a class) (λ n h. values n m a class h) d xs above count

pub games_are_well_made : GamesAreWellMade
games_are_well_made n m a g class game = well_made n m a g class game (places m a class)
