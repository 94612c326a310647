-- The blocks of a file and the players of its game, one by one; all blocks are solved where all players are.
use Rattle.std.proofs.Common.{◌≡◌, ℕ, zero, suc, ◌+◌, ◌<◌, ℤ, List, [], ◌∷◌, length, Some, arith, refl, subst}
use Rattle.std.specs.Prelude.{slice_get}
use Rattle.std.proofs.lemmas.Option.{same_Some, slice_get_within}
use Rattle.emp_num.specs.Point.{Point}
use Rattle.emp_ast.specs.declared.model.Model.{Model}
use Rattle.emp_ast.specs.declared.annot.Block.{Block}
use Rattle.emp_ast.specs.declared.annot.Annot.{Annot}
use Rattle.emp_ast.specs.Meets.{MeetsEquation}
use Rattle.emp_ast.specs.Parties.{block, EachDefinition}
use Rattle.emp_ast.specs.Rivals.{Fits}
use Rattle.emp_ast.specs.Solved.{IsSolved}
use Rattle.emp_game.specs.Game.{Player}
use Rattle.emp_game.specs.Solved as Play
use Rattle.emp_split.specs.Games.{Game, EachPlayer}
use Rattle.emp_problem.specs.GameOf.{IsPlayerOf, ArePlayersOf, IsGameOf}
use Rattle.emp_problem.specs.Class.{IsClassFile}
use Rattle.emp_meaning.specs.Laws.{left_nums}
use Rattle.emp_meaning.specs.Ties.{Places, Owners, Values}
use Rattle.emp_meaning.proofs.Move.{IsTied}
use Rattle.emp_meaning.proofs.PriceLists.{there_is}
use Rattle.emp_meaning.proofs.Solved.{solved_down, solved_up}

-- ---- players and blocks
players_from : (n : ℤ) (m : Model) (a : Annot) (P : ℕ → Player → Type 0) (j : ℕ) (bs : List Block) (pls : List Player) → ArePlayersOf n m a j bs pls → ((k : ℕ) (b : Block) (pl : Player) (i : ℕ) → k ≡ j + i → slice_get bs i ≡ Some b → IsPlayerOf n m a k b pl → P k pl) → EachPlayer P j pls
players_from n m a P j [] [] are each = tt
players_from n m a P j [] (pl ∷ pls) are each = absurd are
players_from n m a P j (b ∷ bs) [] are each = absurd are
players_from n m a P j (b ∷ bs) (pl ∷ pls) are each = (each j b pl 0 (omega arith) refl are.0, players_from n m a P (suc j) bs pls are.1 (λ k c qs i e at of. each k c qs (suc i) (omega arith) at of))

-- what is so of each block's player is so of each player
pub each_player : (n : ℤ) (m : Model) (a : Annot) (g : Game) (P : ℕ → Player → Type 0) → IsGameOf n m a g → ((k : ℕ) (b : Block) (pl : Player) → slice_get a.blocks k ≡ Some b → IsPlayerOf n m a k b pl → P k pl) → EachPlayer P 0 g.players
each_player n m a g P game each = players_from n m a P 0 a.blocks g.players game.players (λ k b pl i e at of. each k b pl (subst (λ x. slice_get a.blocks x ≡ Some b) (let same : i ≡ k = omega arith in same) at) of)

-- the player of a block, and what is so of it
pub record ItsPlayer (n : ℤ) (m : Model) (a : Annot) (P : ℕ → Player → Type 0) (k : ℕ) (b : Block) : Type 0 where
  pub player : Player
  pub of : IsPlayerOf n m a k b player
  pub holds : P k player

players_at : (n : ℤ) (m : Model) (a : Annot) (P : ℕ → Player → Type 0) (j : ℕ) (bs : List Block) (pls : List Player) (i k : ℕ) (b : Block) → ArePlayersOf n m a j bs pls → EachPlayer P j pls → slice_get bs i ≡ Some b → k ≡ j + i → ItsPlayer n m a P k b
players_at n m a P j [] pls i k b are each at e = cc
players_at n m a P j (c ∷ bs) [] i k b are each at e = absurd are
players_at n m a P j (c ∷ bs) (pl ∷ pls) zero k b are each at e =
    let here : j ≡ k = omega arith in
    subst (λ x. ItsPlayer n m a P k x) (same_Some c b at) (subst (λ x. ItsPlayer n m a P x c) here (record { player = pl; of = are.0; holds = each.0 }))
players_at n m a P j (c ∷ bs) (pl ∷ pls) (suc i) k b are each at e = players_at n m a P (suc j) bs pls i k b are.1 each.1 at (omega arith)

pub its_player : (n : ℤ) (m : Model) (a : Annot) (g : Game) (P : ℕ → Player → Type 0) (k : ℕ) (b : Block) → IsGameOf n m a g → EachPlayer P 0 g.players → slice_get a.blocks k ≡ Some b → ItsPlayer n m a P k b
its_player n m a g P k b game each at = players_at n m a P 0 a.blocks g.players k k b game.players each at (omega arith)

-- ---- all of them
module _ (n : ℤ) (m : Model) (a : Annot) (g : Game) (class : IsClassFile m a) (game : IsGameOf n m a g) (places : Places m a) (values : Values n m a) (owners : (k : ℕ) (b : Block) (pl : Player) → slice_get a.blocks k ≡ Some b → IsPlayerOf n m a k b pl → Owners m a k pl) where
  -- the ties of one block
  pub tied_by : (k : ℕ) (b : Block) (pl : Player) → slice_get a.blocks k ≡ Some b → IsPlayerOf n m a k b pl → IsTied n m a g.ranges k b pl
  tied_by k b pl at of = record { positive = game.positive; class = class; places = places; owners = owners k b pl at of; ends = game.ranges; values = values; there = at; player = of }

  pub all_solved_down : (p : Point) → ((k : ℕ) → k < length a.blocks → IsSolved m a k p) → EachPlayer (λ j pl. Play.IsSolved g.ranges pl p.den (left_nums m a p)) 0 g.players
  all_solved_down p solved =
      each_player n m a g (λ j pl. Play.IsSolved g.ranges pl p.den (left_nums m a p)) game
      (λ k b pl at of. solved_down n m a g.ranges k b pl (tied_by k b pl at of) p (solved k (slice_get_within a.blocks k b at)))

  pub all_solved_up : (p : Point) → ((k : ℕ) → k < length a.blocks → EachDefinition m a (block k) (λ e q. MeetsEquation p q)) → Fits m p → EachPlayer (λ j pl. Play.IsSolved g.ranges pl p.den (left_nums m a p)) 0 g.players → (k : ℕ) → k < length a.blocks → IsSolved m a k p
  all_solved_up p meets fits solved k l =
      let found = there_is a.blocks k l in
      let its = its_player n m a g (λ j pl. Play.IsSolved g.ranges pl p.den (left_nums m a p)) k found.0 game solved found.1 in
      solved_up n m a g.ranges k found.0 its.player (tied_by k found.0 its.player found.1 its.of) p (meets k l) fits its.holds
