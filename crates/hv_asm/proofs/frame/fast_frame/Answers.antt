use Rattle.std.proofs.Common.{◌≡◌, ◌∙◌, ℕ, List, ap, drop, refl, sym, take}
use Rattle.std.specs.Prelude.{replicate}
use Rattle.byteorder.specs.Endian.{little_from}
use Rattle.hv_defs.specs.Field.{field}
use Rattle.hv_asm.proofs.Frames.{fast_done}
use Rattle.hv_asm.proofs.Lists.{added}
use Rattle.hv_asm.proofs.Registers.{register_read}
use Rattle.hv_asm.proofs.Words.{seen}
use Rattle.hv_asm.proofs.frame.fast_frame.Goals as goal

pub returns : goal.returns
returns c =
    let list = c.in_ok-list.list.items in
    let new = c.push_zeros.new.list.items in
    let grown = added list (replicate 16 0) new c.in_ok-push_zeros.ensures in
    let one : c.read_u64.result ≡ field list 0 8 =
    c.read_u64.ensures ∙ ap (λ (l : List ℕ). little_from 0 8 (take 8 l)) c.deref.ensures.value ∙ register_read list (replicate 16 0) new 16 0 refl grown in
    let other : c.read_u64-2.result ≡ field list 8 8 =
    c.read_u64-2.ensures ∙ ap (λ (l : List ℕ). little_from 0 8 (take 8 (drop 8 l))) c.deref-2.ensures.value ∙ register_read list (replicate 16 0) new 16 8 refl grown in
    fast_done c.args.call (seen c.args.words.now) list c.in_ok-rcx.rcx c.read_u64.result c.read_u64-2.result c.from_vec.result (sym c.if-not-accepts_fast.ensures.row) c.in_ok-list.ensures.list
    c.in_ok-rcx.ensures one other (c.from_vec.ensures ∙ c.new.ensures.items)
