use Rattle.std.proofs.Common.{◌+◌, ◌-◌, ◌==◌, drop, subst, sym, take}
use Rattle.std.specs.Io.KnownBytes.{Appends}
use Rattle.std.proofs.KnownBytes.{Appends-trans}
use Rattle.hv_history.specs.History.{entries, entry_by}
use Rattle.hv_serve.specs.Json.{events_value}
use Rattle.hv_serve.proofs.Strings.{event_value, next_event}
use Rattle.hv_serve.proofs.json.put_entries.Goals as goal

pub loop-at-preserved : goal.loop-at-preserved
loop-at-preserved g c =
    let es = entries c.history-history.result.now in
    let before = c.args.before in
    let at = c.loop-at.at in
    let first = g.W.Write.contents c.args.out.now in
    let second = g.W.Write.contents c.loop-at.out in
    let third = g.W.Write.contents c.put_entry.new.out in
    subst (Appends first third) (sym (next_event es before at (entry_by c.entry.result) c.loop-at.auto.at c.entry.ensures.entry))
    (Appends-trans first second third (events_value (before + 1) (take (at - before) (drop before es))) (event_value (at == before) (at + 1) (entry_by c.entry.result))
    c.loop-at.invariant c.in_ok-put_entry.ensures)
