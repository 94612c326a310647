-- A file is its game, as the laws below state it.
use Rattle.emp_meaning.proofs.Assembly as Meaning
use Rattle.emp_verdict.proofs.Verdicts.{FileIsGame}

pub file_is_game : FileIsGame
file_is_game = record { sound = Meaning.game_solves_file; complete = Meaning.file_solves_game; orders = Meaning.orders_agree; fills = Meaning.coordinates_fill; made = Meaning.games_are_well_made }
