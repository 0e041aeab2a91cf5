use Rattle.std.proofs.Common.{◌≡◌, ℕ, ◌+◌, ◌-◌, ◌<◌, ◌≤◌, ◌++◌, ◌∙◌, List, length, get_or, take, drop, length-drop, take_all, arith, ap, vec_capacity}
use Rattle.std.proofs.lemmas.List.{get_or_read, nil_from_length}
use Rattle.hv_ports.specs.Blocks.{Block}
use Rattle.hv_ports.proofs.BlockLists.{at_high, at_low, halved_each, halved_flat, high_length, low_length, set_insert}
use Rattle.hv_ports.proofs.blocks.split.Goals as goal

pub returns-then-place-le-HALF-clause-slots : goal.returns-then-place-le-HALF-clause-slots
returns-then-place-le-HALF-clause-slots g c =
    let bs = c.args.blocks.now.items in
    let i = c.args.place.block in
    let was : Block g.row.R.Denot g.row.A.Denot = c.index_mut.result.now in
    let within : i < length bs = omega (arith, c.args.blocks.now.ok.0, c.requires.block) in
    let high_is : c.truncate.new.self.items ≡ take 8 (get_or bs i was).items = c.truncate.ensures.items ∙ ap (λ (x : Block g.row.R.Denot g.row.A.Denot). take 8 x.items) c.index_mut.ensures.value in
    let read : c.deref.result.now ≡ (get_or bs i was).items =
    c.deref.ensures.value ∙ ap (λ (x : Block g.row.R.Denot g.row.A.Denot). x.items) (get_or_read bs i c.index.result.now within c.index.ensures was)
    in
    let long = length-drop 8 c.deref.result.now in
    let low_is : c.extend_from_slice.new.self.items ≡ drop 8 (get_or bs i was).items =
    (rw c.unwrap.ensures at c.extend_from_slice.ensures.items)
    ∙ ap (λ (l : List (ℕ × g.row.R.Denot)). l ++ take (length c.deref.result.now - 8) (drop 8 c.deref.result.now)) (nil_from_length c.args.blank.items c.requires.blank.0)
    ∙ take_all (length c.deref.result.now - 8) (drop 8 c.deref.result.now) (omega (arith, long))
    ∙ ap (λ (l : List (ℕ × g.row.R.Denot)). drop 8 l) read
    in
    let is = c.in-Ok.ensures.items ∙ set_insert bs i c.truncate.new.self c.extend_from_slice.new.self within in
    halved_flat bs i was within c.truncate.new.self c.extend_from_slice.new.self
    (c.requires.full was) high_is low_is c.insert.new.self.items is

pub returns-then-place-le-HALF-clause-each : goal.returns-then-place-le-HALF-clause-each
returns-then-place-le-HALF-clause-each g c =
    let bs = c.args.blocks.now.items in
    let i = c.args.place.block in
    let was : Block g.row.R.Denot g.row.A.Denot = c.index_mut.result.now in
    let within : i < length bs = omega (arith, c.args.blocks.now.ok.0, c.requires.block) in
    let high_is : c.truncate.new.self.items ≡ take 8 (get_or bs i was).items = c.truncate.ensures.items ∙ ap (λ (x : Block g.row.R.Denot g.row.A.Denot). take 8 x.items) c.index_mut.ensures.value in
    let read : c.deref.result.now ≡ (get_or bs i was).items =
    c.deref.ensures.value ∙ ap (λ (x : Block g.row.R.Denot g.row.A.Denot). x.items) (get_or_read bs i c.index.result.now within c.index.ensures was)
    in
    let long = length-drop 8 c.deref.result.now in
    let low_is : c.extend_from_slice.new.self.items ≡ drop 8 (get_or bs i was).items =
    (rw c.unwrap.ensures at c.extend_from_slice.ensures.items)
    ∙ ap (λ (l : List (ℕ × g.row.R.Denot)). l ++ take (length c.deref.result.now - 8) (drop 8 c.deref.result.now)) (nil_from_length c.args.blank.items c.requires.blank.0)
    ∙ take_all (length c.deref.result.now - 8) (drop 8 c.deref.result.now) (omega (arith, long))
    ∙ ap (λ (l : List (ℕ × g.row.R.Denot)). drop 8 l) read
    in
    let is = c.in-Ok.ensures.items ∙ set_insert bs i c.truncate.new.self c.extend_from_slice.new.self within in
    let h = high_length bs i was within c.truncate.new.self c.extend_from_slice.new.self
    (c.requires.full was) high_is low_is c.insert.new.self.items is in
    let l = low_length bs i was within c.truncate.new.self c.extend_from_slice.new.self
    (c.requires.full was) high_is low_is c.insert.new.self.items is in
    let old = c.requires.each i was within in
    let kept : vec_capacity was ≡ vec_capacity (get_or bs i was) = ap (λ (x : Block g.row.R.Denot g.row.A.Denot). vec_capacity x) c.index_mut.ensures.value in
    let most : 16 ≤ vec_capacity c.truncate.new.self = omega (arith, c.truncate.ensures.capacity, kept, old) in
    let room : 16 ≤ vec_capacity c.extend_from_slice.new.self = omega (arith, c.extend_from_slice.ensures.capacity, c.requires.blank.1) in
    halved_each bs i was within c.truncate.new.self c.extend_from_slice.new.self
    (c.requires.full was) high_is low_is c.insert.new.self.items is c.requires.each (omega (arith, h), omega (arith, h), most) (omega (arith, l), omega (arith, l), room)

pub returns-then-place-le-HALF-clause-at : goal.returns-then-place-le-HALF-clause-at
returns-then-place-le-HALF-clause-at g c =
    let bs = c.args.blocks.now.items in
    let i = c.args.place.block in
    let was : Block g.row.R.Denot g.row.A.Denot = c.index_mut.result.now in
    let within : i < length bs = omega (arith, c.args.blocks.now.ok.0, c.requires.block) in
    let high_is : c.truncate.new.self.items ≡ take 8 (get_or bs i was).items = c.truncate.ensures.items ∙ ap (λ (x : Block g.row.R.Denot g.row.A.Denot). take 8 x.items) c.index_mut.ensures.value in
    let read : c.deref.result.now ≡ (get_or bs i was).items =
    c.deref.ensures.value ∙ ap (λ (x : Block g.row.R.Denot g.row.A.Denot). x.items) (get_or_read bs i c.index.result.now within c.index.ensures was)
    in
    let long = length-drop 8 c.deref.result.now in
    let low_is : c.extend_from_slice.new.self.items ≡ drop 8 (get_or bs i was).items =
    (rw c.unwrap.ensures at c.extend_from_slice.ensures.items)
    ∙ ap (λ (l : List (ℕ × g.row.R.Denot)). l ++ take (length c.deref.result.now - 8) (drop 8 c.deref.result.now)) (nil_from_length c.args.blank.items c.requires.blank.0)
    ∙ take_all (length c.deref.result.now - 8) (drop 8 c.deref.result.now) (omega (arith, long))
    ∙ ap (λ (l : List (ℕ × g.row.R.Denot)). drop 8 l) read
    in
    let is = c.in-Ok.ensures.items ∙ set_insert bs i c.truncate.new.self c.extend_from_slice.new.self within in
    let h = high_length bs i was within c.truncate.new.self c.extend_from_slice.new.self
    (c.requires.full was) high_is low_is c.insert.new.self.items is in
    λ b.
    let there : length (get_or c.insert.new.self.items i b).items ≡ length c.truncate.new.self.items =
    ap (λ (x : Block g.row.R.Denot g.row.A.Denot). length x.items) (at_high bs i was within c.truncate.new.self c.extend_from_slice.new.self
    (c.requires.full was) high_is low_is c.insert.new.self.items is b) in
    omega (arith, h, there, c.if-place-le-HALF.true)

pub returns-else-place-le-HALF-clause-slots : goal.returns-else-place-le-HALF-clause-slots
returns-else-place-le-HALF-clause-slots g c =
    let bs = c.args.blocks.now.items in
    let i = c.args.place.block in
    let was : Block g.row.R.Denot g.row.A.Denot = c.index_mut.result.now in
    let within : i < length bs = omega (arith, c.args.blocks.now.ok.0, c.requires.block) in
    let high_is : c.truncate.new.self.items ≡ take 8 (get_or bs i was).items = c.truncate.ensures.items ∙ ap (λ (x : Block g.row.R.Denot g.row.A.Denot). take 8 x.items) c.index_mut.ensures.value in
    let read : c.deref.result.now ≡ (get_or bs i was).items =
    c.deref.ensures.value ∙ ap (λ (x : Block g.row.R.Denot g.row.A.Denot). x.items) (get_or_read bs i c.index.result.now within c.index.ensures was)
    in
    let long = length-drop 8 c.deref.result.now in
    let low_is : c.extend_from_slice.new.self.items ≡ drop 8 (get_or bs i was).items =
    (rw c.unwrap.ensures at c.extend_from_slice.ensures.items)
    ∙ ap (λ (l : List (ℕ × g.row.R.Denot)). l ++ take (length c.deref.result.now - 8) (drop 8 c.deref.result.now)) (nil_from_length c.args.blank.items c.requires.blank.0)
    ∙ take_all (length c.deref.result.now - 8) (drop 8 c.deref.result.now) (omega (arith, long))
    ∙ ap (λ (l : List (ℕ × g.row.R.Denot)). drop 8 l) read
    in
    let is = c.in-Ok.ensures.items ∙ set_insert bs i c.truncate.new.self c.extend_from_slice.new.self within in
    halved_flat bs i was within c.truncate.new.self c.extend_from_slice.new.self
    (c.requires.full was) high_is low_is c.insert.new.self.items is

pub returns-else-place-le-HALF-clause-each : goal.returns-else-place-le-HALF-clause-each
returns-else-place-le-HALF-clause-each g c =
    let bs = c.args.blocks.now.items in
    let i = c.args.place.block in
    let was : Block g.row.R.Denot g.row.A.Denot = c.index_mut.result.now in
    let within : i < length bs = omega (arith, c.args.blocks.now.ok.0, c.requires.block) in
    let high_is : c.truncate.new.self.items ≡ take 8 (get_or bs i was).items = c.truncate.ensures.items ∙ ap (λ (x : Block g.row.R.Denot g.row.A.Denot). take 8 x.items) c.index_mut.ensures.value in
    let read : c.deref.result.now ≡ (get_or bs i was).items =
    c.deref.ensures.value ∙ ap (λ (x : Block g.row.R.Denot g.row.A.Denot). x.items) (get_or_read bs i c.index.result.now within c.index.ensures was)
    in
    let long = length-drop 8 c.deref.result.now in
    let low_is : c.extend_from_slice.new.self.items ≡ drop 8 (get_or bs i was).items =
    (rw c.unwrap.ensures at c.extend_from_slice.ensures.items)
    ∙ ap (λ (l : List (ℕ × g.row.R.Denot)). l ++ take (length c.deref.result.now - 8) (drop 8 c.deref.result.now)) (nil_from_length c.args.blank.items c.requires.blank.0)
    ∙ take_all (length c.deref.result.now - 8) (drop 8 c.deref.result.now) (omega (arith, long))
    ∙ ap (λ (l : List (ℕ × g.row.R.Denot)). drop 8 l) read
    in
    let is = c.in-Ok.ensures.items ∙ set_insert bs i c.truncate.new.self c.extend_from_slice.new.self within in
    let h = high_length bs i was within c.truncate.new.self c.extend_from_slice.new.self
    (c.requires.full was) high_is low_is c.insert.new.self.items is in
    let l = low_length bs i was within c.truncate.new.self c.extend_from_slice.new.self
    (c.requires.full was) high_is low_is c.insert.new.self.items is in
    let old = c.requires.each i was within in
    let kept : vec_capacity was ≡ vec_capacity (get_or bs i was) = ap (λ (x : Block g.row.R.Denot g.row.A.Denot). vec_capacity x) c.index_mut.ensures.value in
    let most : 16 ≤ vec_capacity c.truncate.new.self = omega (arith, c.truncate.ensures.capacity, kept, old) in
    let room : 16 ≤ vec_capacity c.extend_from_slice.new.self = omega (arith, c.extend_from_slice.ensures.capacity, c.requires.blank.1) in
    halved_each bs i was within c.truncate.new.self c.extend_from_slice.new.self
    (c.requires.full was) high_is low_is c.insert.new.self.items is c.requires.each (omega (arith, h), omega (arith, h), most) (omega (arith, l), omega (arith, l), room)

pub returns-else-place-le-HALF-clause-at : goal.returns-else-place-le-HALF-clause-at
returns-else-place-le-HALF-clause-at g c =
    let bs = c.args.blocks.now.items in
    let i = c.args.place.block in
    let was : Block g.row.R.Denot g.row.A.Denot = c.index_mut.result.now in
    let within : i < length bs = omega (arith, c.args.blocks.now.ok.0, c.requires.block) in
    let high_is : c.truncate.new.self.items ≡ take 8 (get_or bs i was).items = c.truncate.ensures.items ∙ ap (λ (x : Block g.row.R.Denot g.row.A.Denot). take 8 x.items) c.index_mut.ensures.value in
    let read : c.deref.result.now ≡ (get_or bs i was).items =
    c.deref.ensures.value ∙ ap (λ (x : Block g.row.R.Denot g.row.A.Denot). x.items) (get_or_read bs i c.index.result.now within c.index.ensures was)
    in
    let long = length-drop 8 c.deref.result.now in
    let low_is : c.extend_from_slice.new.self.items ≡ drop 8 (get_or bs i was).items =
    (rw c.unwrap.ensures at c.extend_from_slice.ensures.items)
    ∙ ap (λ (l : List (ℕ × g.row.R.Denot)). l ++ take (length c.deref.result.now - 8) (drop 8 c.deref.result.now)) (nil_from_length c.args.blank.items c.requires.blank.0)
    ∙ take_all (length c.deref.result.now - 8) (drop 8 c.deref.result.now) (omega (arith, long))
    ∙ ap (λ (l : List (ℕ × g.row.R.Denot)). drop 8 l) read
    in
    let is = c.in-Ok.ensures.items ∙ set_insert bs i c.truncate.new.self c.extend_from_slice.new.self within in
    let l = low_length bs i was within c.truncate.new.self c.extend_from_slice.new.self
    (c.requires.full was) high_is low_is c.insert.new.self.items is in
    λ b.
    let there : length (get_or c.insert.new.self.items (i + 1) b).items ≡ length c.extend_from_slice.new.self.items =
    ap (λ (x : Block g.row.R.Denot g.row.A.Denot). length x.items) (at_low bs i was within c.truncate.new.self c.extend_from_slice.new.self
    (c.requires.full was) high_is low_is c.insert.new.self.items is b) in
    omega (arith, l, there, c.requires.at)

pub returns-else-place-le-HALF-clause-some : goal.returns-else-place-le-HALF-clause-some
returns-else-place-le-HALF-clause-some g c =
    let bs = c.args.blocks.now.items in
    let i = c.args.place.block in
    let was : Block g.row.R.Denot g.row.A.Denot = c.index_mut.result.now in
    let within : i < length bs = omega (arith, c.args.blocks.now.ok.0, c.requires.block) in
    let high_is : c.truncate.new.self.items ≡ take 8 (get_or bs i was).items = c.truncate.ensures.items ∙ ap (λ (x : Block g.row.R.Denot g.row.A.Denot). take 8 x.items) c.index_mut.ensures.value in
    let read : c.deref.result.now ≡ (get_or bs i was).items =
    c.deref.ensures.value ∙ ap (λ (x : Block g.row.R.Denot g.row.A.Denot). x.items) (get_or_read bs i c.index.result.now within c.index.ensures was)
    in
    let long = length-drop 8 c.deref.result.now in
    let low_is : c.extend_from_slice.new.self.items ≡ drop 8 (get_or bs i was).items =
    (rw c.unwrap.ensures at c.extend_from_slice.ensures.items)
    ∙ ap (λ (l : List (ℕ × g.row.R.Denot)). l ++ take (length c.deref.result.now - 8) (drop 8 c.deref.result.now)) (nil_from_length c.args.blank.items c.requires.blank.0)
    ∙ take_all (length c.deref.result.now - 8) (drop 8 c.deref.result.now) (omega (arith, long))
    ∙ ap (λ (l : List (ℕ × g.row.R.Denot)). drop 8 l) read
    in
    let is = c.in-Ok.ensures.items ∙ set_insert bs i c.truncate.new.self c.extend_from_slice.new.self within in
    let l = low_length bs i was within c.truncate.new.self c.extend_from_slice.new.self
    (c.requires.full was) high_is low_is c.insert.new.self.items is in
    λ b.
    let there : length (get_or c.insert.new.self.items (i + 1) b).items ≡ length c.extend_from_slice.new.self.items =
    ap (λ (x : Block g.row.R.Denot g.row.A.Denot). length x.items) (at_low bs i was within c.truncate.new.self c.extend_from_slice.new.self
    (c.requires.full was) high_is low_is c.insert.new.self.items is b) in
    omega (arith, l, there, c.requires.at)
