-- Notes, one after another.
use Rattle.std.proofs.Common.{◌≡◌, ℕ, suc, ◌+◌, ◌<◌, List, [], ◌∷◌, ◌++◌, refl, sym, ap, ◌∙◌, arith, append_assoc, append-nil, take, take-suc, length, get_or}
use Rattle.hv_trace.specs.Perfetto.{note_text, notes_text}
use Rattle.hv_trace.specs.declared.perfetto.note.Note.{Note}

notes_append : (ms ns : List Note) → notes_text (ms ++ ns) ≡ notes_text ms ++ notes_text ns
notes_append [] ns = refl
notes_append (m ∷ ms) ns =
    ap (λ (l : List ℕ). note_text m ++ l) (notes_append ms ns)
    ∙ sym (append_assoc (note_text m) (notes_text ms) (notes_text ns))

-- one note more
pub one_note_more : (ns : List Note) (at : ℕ) (d : Note) → at < length ns
    → notes_text (take (at + 1) ns) ≡ notes_text (take at ns) ++ note_text (get_or ns at d)
one_note_more ns at d within =
    let next : at + 1 ≡ suc at = omega arith in
    let more : take (at + 1) ns ≡ take at ns ++ get_or ns at d ∷ [] = ap (λ k. take k ns) next ∙ take-suc ns at d within in
    ap notes_text more ∙ notes_append (take at ns) (get_or ns at d ∷ [])
    ∙ ap (λ (l : List ℕ). notes_text (take at ns) ++ l) (append-nil (note_text (get_or ns at d)))
