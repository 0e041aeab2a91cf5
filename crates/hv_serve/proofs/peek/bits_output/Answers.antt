use Rattle.std.proofs.Common.{◌≡◌, ◌++◌, ℕ, List, length, slice_index, ap, ◌∙◌}
use Rattle.std.specs.Int.{w64, to_le_bytes}
use Rattle.hv_serve.proofs.Vectors.{vectors_written}
use Rattle.hv_serve.proofs.peek.bits_output.Goals as goal

pub returns : goal.returns
returns c =
    let words = c.args.words.now in
    let four : length words ≡ 4 = c.told-words in
    let with : List ℕ → ℕ → List ℕ = λ bytes k. bytes ++ to_le_bytes w64 (slice_index words k) in
    let one : c.push_number.new.self ≡ to_le_bytes w64 (slice_index words 0) = c.push_number.ensures ∙ ap (λ bytes. with bytes 0) c.new-output.ensures in
    let two = c.push_number-2.ensures ∙ ap (λ bytes. with bytes 1) one in
    let three = c.push_number-3.ensures ∙ ap (λ bytes. with bytes 2) two in
    c.push_number-4.ensures ∙ ap (λ bytes. with bytes 3) three ∙ vectors_written words four
