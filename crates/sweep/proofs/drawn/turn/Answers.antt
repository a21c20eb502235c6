use Rattle.sweep.proofs.Drawing.{marks_within, draw_pick, draw_done}
use Rattle.sweep.proofs.drawn.turn.Goals as goal

pub select-p-requires : goal.select-p-requires
select-p-requires c = let a = c.requires.1 in marks_within a.marks a.ready.stage.tables.small a.some c.next-s.result

pub take-requires : goal.take-requires
take-requires c = (c.requires.0, draw_pick c.requires.1 c.args.now.state c.next-s.ensures c.select-p.ensures)

pub returns : goal.returns
returns c =
    let i = c.next-s.ensures in
    let j = c.select-p.ensures in
    λ e a. rw c.take.ensures.state (draw_done a c.args.now.state i j (c.take.ensures.picked e (draw_pick a c.args.now.state i j)))
