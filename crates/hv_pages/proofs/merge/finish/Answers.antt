use Rattle.std.proofs.Common.{◌≡◌, ◌≤◌, ◌++◌, ◌∷◌, [], List, All, max, length, take, arith, ap, sym, subst, ◌∙◌, length-take-le, append-nil}
use Rattle.hv_pages.specs.Blocks.{AreDense, Block, IsBlock, flat, weight}
use Rattle.hv_pages.specs.Merge.{count_of}
use Rattle.hv_pages.proofs.Merges.{ended_dense, ended_weight, shared_flat, shared_each, shared_dense, shared_weight}
use Rattle.hv_pages.proofs.merge.finish.Goals as goal

pub returns-in-Some-clause-runs : goal.returns-in-Some-clause-runs
returns-in-Some-clause-runs g c =
    let parts : c.pop.new.self.items ++ c.in-Some.upper ∷ [] ≡ take c.args.w.full c.args.blocks.now.items = sym c.in-Some.ensures.items
    ∙ c.truncate.ensures.items in
    let full = subst (All (λ (x : Block). length x.items ≡ 256)) (sym parts) c.requires.written.full in
    ap flat c.share.ensures.items
    ∙ shared_flat c.pop.new.self.items c.in-Some.upper c.args.w.last.items full (omega (arith, c.if-len-lt-HALF.true, c.len.ensures.value))
    ∙ ap (λ (l : List Block). flat l ++ c.args.w.last.items) parts

pub returns-in-Some-clause-each : goal.returns-in-Some-clause-each
returns-in-Some-clause-each g c =
    let parts : c.pop.new.self.items ++ c.in-Some.upper ∷ [] ≡ take c.args.w.full c.args.blocks.now.items = sym c.in-Some.ensures.items
    ∙ c.truncate.ensures.items in
    let full = subst (All (λ (x : Block). length x.items ≡ 256)) (sym parts) c.requires.written.full in
    subst (All IsBlock) (sym c.share.ensures.items)
    (shared_each c.pop.new.self.items c.in-Some.upper c.args.w.last.items full (omega (arith, c.if-len-lt-HALF.true, c.len.ensures.value)))

pub returns-in-Some-clause-dense : goal.returns-in-Some-clause-dense
returns-in-Some-clause-dense g c =
    let parts : c.pop.new.self.items ++ c.in-Some.upper ∷ [] ≡ take c.args.w.full c.args.blocks.now.items = sym c.in-Some.ensures.items
    ∙ c.truncate.ensures.items in
    let full = subst (All (λ (x : Block). length x.items ≡ 256)) (sym parts) c.requires.written.full in
    subst (AreDense 129) (sym c.share.ensures.items)
    (shared_dense c.pop.new.self.items c.in-Some.upper c.args.w.last.items full (omega (arith, c.if-len-lt-HALF.true, c.len.ensures.value)))

pub returns-in-Some-clause-weight : goal.returns-in-Some-clause-weight
returns-in-Some-clause-weight g c =
    let parts : c.pop.new.self.items ++ c.in-Some.upper ∷ [] ≡ take c.args.w.full c.args.blocks.now.items = sym c.in-Some.ensures.items
    ∙ c.truncate.ensures.items in
    let full = subst (All (λ (x : Block). length x.items ≡ 256)) (sym parts) c.requires.written.full in
    let count : length (c.pop.new.self.items ++ c.in-Some.upper ∷ []) ≡ c.args.w.full =
    ap (λ (l : List Block). length l) parts ∙ length-take-le c.args.w.full c.args.blocks.now.items c.requires.written.within
    in
    let least = shared_weight c.pop.new.self.items c.in-Some.upper c.args.w.last.items full (omega (arith, c.if-len-lt-HALF.true, c.len.ensures.value)) in
    subst (λ (l : List Block). weight l ≤ max 128 (count_of c.args.w)) (sym c.share.ensures.items) (omega (arith, count, least))

pub returns-in-None-clause-dense : goal.returns-in-None-clause-dense
returns-in-None-clause-dense g c =
    let is : c.pop.new.self.items ≡ take c.args.w.full c.args.blocks.now.items = sym (append-nil c.pop.new.self.items) ∙ sym c.in-None.ensures.items
    ∙ c.truncate.ensures.items in
    subst (AreDense 129) (sym (c.push_reserved.ensures.items ∙ ap (λ (l : List Block). l ++ c.args.w.last ∷ []) is))
    (ended_dense (take c.args.w.full c.args.blocks.now.items) c.args.w.last c.requires.written.full c.requires.some c.requires.written.few)

pub returns-in-None-clause-weight : goal.returns-in-None-clause-weight
returns-in-None-clause-weight g c =
    let is : c.pop.new.self.items ≡ take c.args.w.full c.args.blocks.now.items = sym (append-nil c.pop.new.self.items) ∙ sym c.in-None.ensures.items
    ∙ c.truncate.ensures.items in
    let count : length (take c.args.w.full c.args.blocks.now.items) ≡ c.args.w.full = length-take-le c.args.w.full c.args.blocks.now.items
    c.requires.written.within in
    let least =
    ended_weight (take c.args.w.full c.args.blocks.now.items) c.args.w.last c.requires.written.full c.requires.some c.requires.written.few
    (λ some. absurd (omega (arith, some, count, c.in-None.ensures.cases.0, c.truncate.ensures.len, c.requires.written.within, c.args.blocks.now.ok.0)))
    in
    subst (λ (l : List Block). weight l ≤ max 128 (count_of c.args.w)) (sym (c.push_reserved.ensures.items
    ∙ ap (λ (l : List Block). l ++ c.args.w.last ∷ []) is)) (omega (arith, count, least))

pub returns-else-len-lt-HALF-clause-dense : goal.returns-else-len-lt-HALF-clause-dense
returns-else-len-lt-HALF-clause-dense g c =
    subst (AreDense 129) (sym (c.push_reserved-else-len-lt-HALF.ensures.items ∙ ap (λ (l : List Block). l ++ c.args.w.last ∷ []) c.truncate.ensures.items))
    (ended_dense (take c.args.w.full c.args.blocks.now.items) c.args.w.last c.requires.written.full c.requires.some c.requires.written.few)

pub returns-else-len-lt-HALF-clause-weight : goal.returns-else-len-lt-HALF-clause-weight
returns-else-len-lt-HALF-clause-weight g c =
    let count : length (take c.args.w.full c.args.blocks.now.items) ≡ c.args.w.full = length-take-le c.args.w.full c.args.blocks.now.items
    c.requires.written.within in
    let least =
    ended_weight (take c.args.w.full c.args.blocks.now.items) c.args.w.last c.requires.written.full c.requires.some c.requires.written.few
    (λ some. omega (arith, c.if-len-lt-HALF.false, c.len.ensures.value))
    in
    subst (λ (l : List Block). weight l ≤ max 128 (count_of c.args.w)) (sym (c.push_reserved-else-len-lt-HALF.ensures.items
    ∙ ap (λ (l : List Block). l ++ c.args.w.last ∷ []) c.truncate.ensures.items))
    (omega (arith, count, least))
