use Rattle.pj_image.specs.Pieces.{methods_pieces}
use Rattle.pj_image.proofs.PieceLaws.{bytes-pieces, over_right, right_over}
use Rattle.pj_image.proofs.pieces.piece_laws.Goals as goal

pub returns : goal.returns
returns c = record {
  bytes = bytes-pieces;
  numbers = λ at ms es e. (over_right (methods_pieces ms) 0 at es e).numbers;
  places = λ at ms es e. (over_right (methods_pieces ms) 0 at es e).places;
  right = λ at ms es numbers places. right_over (methods_pieces ms) 0 at es numbers places;
}
