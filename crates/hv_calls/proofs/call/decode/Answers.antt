use Rattle.hv_calls.proofs.Decoded.{decoded_of, decoded-same, decoded-ok, decoded-only, decoded-malformed, decoded-kind}
use Rattle.hv_calls.proofs.call.decode.Goals as goal
use Rattle.std.proofs.Common.{◌≡◌}

pub returns : goal.returns
returns g c =
    let frame = c.args.frame.now in
    let kind = c.args.shape.now.kind in
    let same : c.decode_named.result ≡ decoded_of kind frame = decoded-same frame kind c.decode_named.result c.args.shape.now.fast c.args.shape.now.start c.decode_named.ensures c.requires.fast
    c.requires.start in
    record {
      ok = decoded-ok frame kind c.decode_named.result same;
      only = decoded-only frame kind c.decode_named.result same;
      malformed = decoded-malformed frame kind c.decode_named.result same;
      kind = decoded-kind frame kind c.decode_named.result same;
    }
