-- Texts that were written in parts.
use Rattle.std.proofs.Common.{◌≡◌, ℕ, List, ◌++◌, sym, ap, ◌∙◌, subst, append_assoc, codes, decimal, Option}
use Rattle.std.specs.Io.KnownBytes.{Appends}
use Rattle.std.proofs.KnownBytes.{Appends-trans}
use Rattle.hv_admit.specs.declared.effect.Effect.{Effect}
use Rattle.hv_policy.specs.declared.event.Caller.{Caller}
use Rattle.hv_policy.specs.declared.reply.Reply.{Reply}
use Rattle.hv_draw.specs.Sequence.{IsChart, class_text, none_text, opening_text, reach_text, row_text}
use Rattle.hv_draw.specs.Head.{IsHead}
use Rattle.hv_draw.specs.Shapes.{shapes_text}
use Rattle.hv_draw.specs.declared.shapes.Shapes.{Shapes}

-- a chart is a head, what it says without rows, its rows, and then its end
pub chart_of : (head rows none begun text whole : List ℕ) → IsHead head → none ≡ none_text rows → begun ≡ head ++ none → text ≡ begun ++ rows → whole ≡ text ++ codes "</svg>\n" → IsChart rows whole
chart_of head rows none begun text whole is_head silent first second third = record {
  head = head;
  is_head = is_head;
  is = third ∙ ap (λ (l : List ℕ). l ++ codes "</svg>\n") (second ∙ ap (λ (l : List ℕ). l ++ rows) (first ∙ ap (λ (l : List ℕ). head ++ l) silent));
}

-- the beginning of a row was written by four writes
pub opening_written : (u v w x y : Option (List ℕ)) (number vp : ℕ) (by : Caller) → vp ≡ by.vp → Appends u v (codes "<g id=\"e" ++ decimal number)
    → Appends v w (codes "\" data-vp=\"" ++ decimal by.part) → Appends w x (codes "." ++ decimal vp) → Appends x y (codes "\" class=\"") → Appends u y (opening_text number by)
unfolding opening_text
opening_written u v w x y number vp by is first second third fourth =
    let a = codes "<g id=\"e" ++ decimal number in
    let q = codes "\" data-vp=\"" in
    let p = decimal by.part in
    let d = codes "." in
    let c = codes "\" class=\"" in
    let whole : (a ++ (q ++ p)) ++ (d ++ decimal vp) ≡ (a ++ q) ++ ((p ++ d) ++ decimal by.vp) =
    ap (λ (k : ℕ). (a ++ (q ++ p)) ++ (d ++ decimal k)) is ∙ ap (λ (l : List ℕ). l ++ (d ++ decimal by.vp)) (sym (append_assoc a q p)) ∙ append_assoc (a ++ q) p (d ++ decimal by.vp)
    ∙ ap (λ (l : List ℕ). (a ++ q) ++ l) (sym (append_assoc p d (decimal by.vp))) in
    Appends-trans u x y ((a ++ q) ++ ((p ++ d) ++ decimal by.vp)) c
    (subst (Appends u x) whole (Appends-trans u w x (a ++ (q ++ p)) (d ++ decimal vp) (Appends-trans u v w a (q ++ p) first second) third)) fourth

-- a row was written by eight writes
pub row_written : (s0 s1 s2 s3 s4 s5 s6 s7 s8 : Option (List ℕ)) (number : ℕ) (by : Caller) (reply : Reply) (effect : Effect) (own words : List ℕ) (shapes : Shapes)
    (own_label label : List ℕ) → own ≡ words → own_label ≡ label
    → Appends s0 s1 (opening_text number by) → Appends s1 s2 (class_text reply) → Appends s2 s3 (reach_text effect) → Appends s3 s4 (codes "\"><title>") → Appends s4 s5 own
    → Appends s5 s6 (codes "</title>") → Appends s6 s7 (shapes_text number shapes own_label) → Appends s7 s8 (codes "</g>\n")
    → Appends s0 s8 (row_text number by reply effect words shapes label)
unfolding row_text
row_written s0 s1 s2 s3 s4 s5 s6 s7 s8 number by reply effect own words shapes own_label label is are w1 w2 w3 w4 w5 w6 w7 w8 =
    let t1 = opening_text number by in
    let t2 = t1 ++ class_text reply in
    let t3 = t2 ++ reach_text effect in
    let t4 = t3 ++ codes "\"><title>" in
    let t5 = t4 ++ words in
    let t6 = t5 ++ codes "</title>" in
    let t7 = t6 ++ shapes_text number shapes label in
    let u2 = Appends-trans s0 s1 s2 t1 (class_text reply) w1 w2 in
    let u3 = Appends-trans s0 s2 s3 t2 (reach_text effect) u2 w3 in
    let u4 = Appends-trans s0 s3 s4 t3 (codes "\"><title>") u3 w4 in
    let u5 = Appends-trans s0 s4 s5 t4 words u4 (subst (Appends s4 s5) is w5) in
    let u6 = Appends-trans s0 s5 s6 t5 (codes "</title>") u5 w6 in
    let u7 = Appends-trans s0 s6 s7 t6 (shapes_text number shapes label) u6 (subst (λ (l : List ℕ). Appends s6 s7 (shapes_text number shapes l)) are w7) in
    Appends-trans s0 s7 s8 t7 (codes "</g>\n") u7 w8
