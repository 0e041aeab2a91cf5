use Rattle.std.proofs.Common.{◌≡◌, ◌<◌, ◌-◌, length, sym, ap, ◌∙◌, arith, vec_len}
use Rattle.std.proofs.lemmas.List.{length-map}
use Rattle.hv_policy.specs.declared.event.Event.{Event}
use Rattle.hv_history.proofs.Rows.{changed, entry_at, head_is, restarted, row_placed}
use Rattle.hv_history.specs.History.{entries}
use Rattle.hv_history.specs.Row.{asking, entry_of, head_at}
use Rattle.hv_history.specs.Run.{element, restart}
use Rattle.hv_history.specs.declared.entry.Entry.{Entry}
use Rattle.hv_history.proofs.row.History.restart.Goals as goal

pub returns-clause-same : goal.returns-clause-same
returns-clause-same g c =
    let h = c.args.self.now in
    let row = c.index-row.result.now in
    let some = c.requires.some in
    let less : c.len.result - 1 < length h.rows.items = omega (arith, length-map h.rows.items (entry_of {A = g.row.A.Denot} h.heads.items h.outputs.items)) in
    let head = (row_placed (vec_len h.heads) (vec_len h.outputs) h.rows.items (c.len.result - 1) row h.placed less c.index-row.ensures).head in
    let at : row.head < length h.heads.items = omega arith in
    let event : c.replace-event.result ≡ head_at h.heads.items row.head = c.replace-event.ensures.value ∙ sym (head_is h.heads.items row.head c.index_mut.result.now at c.index_mut.ensures.value) in
    restarted h.heads.items h.outputs.items h.rows.items row.head c.replace-event.new.dest c.at_element.result at
    (λ rcx. c.at_element.ensures.alike rcx ∙ ap (λ (e : Event g.row.A.Denot). asking e rcx) event)

pub returns-clause-head : goal.returns-clause-head
returns-clause-head g c = λ last frame is call.
    let h = c.args.self.now in
    let row = c.index-row.result.now in
    let some = c.requires.some in
    let count = length-map h.rows.items (entry_of {A = g.row.A.Denot} h.heads.items h.outputs.items) in
    let less : c.len.result - 1 < length h.rows.items = omega arith in
    let head = (row_placed (vec_len h.heads) (vec_len h.outputs) h.rows.items (c.len.result - 1) row h.placed less c.index-row.ensures).head in
    let at : row.head < length h.heads.items = omega arith in
    let event : c.replace-event.result ≡ head_at h.heads.items row.head = c.replace-event.ensures.value ∙ sym (head_is h.heads.items row.head c.index_mut.result.now at c.index_mut.ensures.value) in
    let place : length (entries h) - 1 ≡ c.len.result - 1 = omega arith in
    let there = entry_at h.heads.items h.outputs.items h.rows.items (c.len.result - 1) row (omega arith) c.index-row.ensures in
    let own : last ≡ entry_of h.heads.items h.outputs.items row = cc in
    let asked : asking c.replace-event.result row.rcx ≡ last.event = ap (λ (e : Event g.row.A.Denot). asking e row.rcx) event ∙ sym (ap (λ (e : Entry g.row.A.Denot). e.event) own) in
    changed h.heads.items row.head c.replace-event.new.dest c.at_element.result at ∙ c.at_element.ensures.call frame (ap (λ (e : Event g.row.A.Denot). e.what) asked ∙ call)
    ∙ ap (λ by. element by (restart frame c.args.start)) (ap (λ (e : Event g.row.A.Denot). e.by) asked)
