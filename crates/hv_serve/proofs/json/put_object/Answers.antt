use Rattle.std.proofs.Common.{◌+◌, ◌++◌, ℕ, List, codes, decimal, drop, option_map}
use Rattle.std.proofs.KnownBytes.{Appends-trans}
use Rattle.std.proofs.lemmas.Result.{on_ok_weaker}
use Rattle.hv_serve.specs.Bench.{kept_in}
use Rattle.hv_serve.specs.Json.{elements, events_value, fault_value, object_text, shown_member}
use Rattle.hv_serve.specs.Session.{history_of}
use Rattle.hv_serve.proofs.WrittenParts.{six}
use Rattle.hv_serve.proofs.json.put_object.Goals as goal

pub returns : goal.returns
unfolding object_text
returns g c =
    let first = g.W.Write.contents c.args.out.now in
    let second = g.W.Write.contents c.put_number.new.out in
    let third = g.W.Write.contents c.put_events.new.out in
    let fourth = g.W.Write.contents c.put_trace.new.out in
    let fifth = g.W.Write.contents c.put_bytes.new.out in
    let sixth = g.W.Write.contents c.put_why.new.out in
    let seventh = g.W.Write.contents c.put_shown.new.out in
    let head : List ℕ = codes "{\"line\":" ++ decimal c.args.number ++ codes ",\"events\":[" in
    let events : List ℕ = events_value (c.args.before + 1) (drop c.args.before (history_of (kept_in c.args.bench.now))) in
    let trace : List ℕ = codes "],\"trace\":[" ++ elements c.args.objects.now in
    let fault : List ℕ = codes "],\"fault\":" in
    let why : List ℕ = fault_value c.args.outcome (option_map (λ text. text.items) c.args.shown.now) in
    let shown : List ℕ = shown_member c.args.outcome (option_map (λ text. text.items) c.args.shown.now) in
    on_ok_weaker c.put_bytes-2.result
    (Appends-trans first seventh (g.W.Write.contents c.put_bytes-2.new.out) (head ++ events ++ trace ++ fault ++ why ++ shown) (codes "}\n")
    (six first second third fourth fifth sixth seventh head events trace fault why shown c.in_ok-put_number.ensures c.in_ok-put_events.ensures c.in_ok-put_trace.ensures c.in_ok-put_bytes.ensures
    c.in_ok-put_why.ensures c.in_ok-put_shown.ensures))
    c.put_bytes-2.ensures
