use Rattle.std.proofs.Common.{◌≡◌, ◌++◌, ◌∙◌, ℕ, List, Result, Ok, ap, sym, append_assoc}
use Rattle.std.specs.Prelude.{replicate}
use Rattle.byteorder.specs.Endian.{little_bytes}
use Rattle.hv_script.specs.Line.{◌>>=◌}
use Rattle.hv_asm.specs.List.{register_value}
use Rattle.hv_asm.specs.Names.{register_of}
use Rattle.hv_asm.specs.Values.{name_in, numeral, value_in}
use Rattle.hv_asm.specs.declared.fault.AsmFault.{AsmFault}
use Rattle.hv_asm.proofs.Lists.{added, pushed_more}
use Rattle.hv_asm.proofs.elements.push_register_value.Goals as goal

pub returns : goal.returns
returns c =
    let word = c.args.word.now in
    let name = c.in_ok-register_of.field-0 in
    let value = c.in_ok-numeral.field-0 in
    let old = c.args.list.now.items in
    let named : register_of (name_in word) ≡ Ok name = ap register_of (sym c.split.ensures.name) ∙ sym c.register_of.ensures.number ∙ c.in_ok-register_of.was in
    let valued : numeral 64 (value_in word) ≡ Ok value = ap (numeral 64) (sym c.split.ensures.value) ∙ sym c.numeral.ensures.number ∙ c.in_ok-numeral.was in
    let all : register_value word ≡ Ok (little_bytes 4 name ++ replicate 12 0 ++ little_bytes 8 value ++ replicate 8 0) =
    ap (λ (r : Result ℕ AsmFault). r >>= (λ name. numeral 64 (value_in word) >>= (λ value. Ok (little_bytes 4 name ++ replicate 12 0 ++ little_bytes 8 value ++ replicate 8 0)))) named
    ∙ ap (λ (r : Result ℕ AsmFault). r >>= (λ value. Ok (little_bytes 4 name ++ replicate 12 0 ++ little_bytes 8 value ++ replicate 8 0))) valued in
    let one = added old (little_bytes 4 name) c.push_number.new.list.items c.in_ok-push_number.ensures in
    let two = added c.push_number.new.list.items (replicate 12 0) c.push_zeros.new.list.items c.in_ok-push_zeros.ensures in
    let three = added c.push_zeros.new.list.items (little_bytes 8 value) c.push_number-2.new.list.items c.in_ok-push_number-2.ensures in
    let mid : c.push_number-2.new.list.items ≡ old ++ (little_bytes 4 name ++ replicate 12 0 ++ little_bytes 8 value) =
    three ∙ ap (λ (l : List ℕ). l ++ little_bytes 8 value) (two ∙ ap (λ (l : List ℕ). l ++ replicate 12 0) one ∙ append_assoc old (little_bytes 4 name) (replicate 12 0))
    ∙ append_assoc old (little_bytes 4 name ++ replicate 12 0) (little_bytes 8 value) in
    pushed_more c.push_zeros-2.result old c.push_number-2.new.list.items c.push_zeros-2.new.list.items (little_bytes 4 name ++ replicate 12 0 ++ little_bytes 8 value) (replicate 8 0)
    (register_value word) mid
    all c.push_zeros-2.ensures
