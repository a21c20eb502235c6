use mathlib.Core.Path.{◌≡◌, sym}
use Rattle.std.proofs.lemmas.Result.{err_from_is_err_and}
use Rattle.graph.specs.Arrows.{arrows}
use Rattle.paths.specs.Promise.{Call, call, collection, first_refusal}
use Rattle.paths.specs.Walk.{SettleAsk}
use Rattle.paths.proofs.Answers.{admitted, find_ask, clear_ask, settled_promise, first_refused}
use Rattle.paths.proofs.path.Goals as goal

pub returns-in_err-refusal : goal.returns-in_err-refusal
returns-in_err-refusal c =
    let asked : Call = let s = c.args in call s.table.now s.u s.v s.room.now s.numbers.now s.words.now in
    let p = err_from_is_err_and c.from_residual.result c.from_residual.ensures.1 in rw (p.1, p.2) (first_refused asked _ c.in_err-refusal.ensures)

pub find-requires : goal.find-requires
find-requires c =
    let asked : Call = let s = c.args in call s.table.now s.u s.v s.room.now s.numbers.now s.words.now in
    find_ask asked (sym c.in_ok-refusal.ensures)

pub settle-answer-requires : goal.settle-answer-requires
settle-answer-requires c =
    let asked : Call = let s = c.args in call s.table.now s.u s.v s.room.now s.numbers.now s.words.now in
    let pass : first_refusal asked ≡ 0 = sym c.in_ok-refusal.ensures in
    (arrows (collection asked), asked.u, record { known = c.find.ensures.known; vertex = (admitted asked pass).v_low })

pub clear-requires : goal.clear-requires
clear-requires c =
    let asked : Call = let s = c.args in call s.table.now s.u s.v s.room.now s.numbers.now s.words.now in
    clear_ask asked (sym c.in_ok-refusal.ensures) _ c.find.ensures.long

pub returns : goal.returns
returns c =
    let asked : Call = let s = c.args in call s.table.now s.u s.v s.room.now s.numbers.now s.words.now in
    let pass : first_refusal asked ≡ 0 = sym c.in_ok-refusal.ensures in
    let ask : SettleAsk (collection asked) asked.u asked.v c.find.new.w = record { known = c.find.ensures.known; vertex = (admitted asked pass).v_low } in
    settled_promise asked pass _ _ _ _ c.find.ensures c.clear.ensures c.settle-answer.result (c.settle-answer.ensures (arrows (collection asked)) asked.u ask)
