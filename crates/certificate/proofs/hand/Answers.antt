use borrow.Author.Rules.{rules}
use Rattle.certificate.proofs.hand.Goals as goal

pub returns : goal.returns
returns c = record { to_rank = search rules; to_in_edge = search rules; to_in_dist = search rules; to_out_edge = search rules; to_out_dist = search rules }
