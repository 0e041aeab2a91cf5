-- A history is a merge of lists of receipts just where both count the same events.
use Rattle.std.proofs.Common.{◌≡◌, ℕ, zero, suc, Some, ◌+◌, ◌-◌, ◌<◌, ◌≤◌, List, [], ◌∷◌, length, get_or, refl, sym, ap, ◌∙◌, subst, inl, inr, arith, Bool, true, false, ◌==◌, if◌then◌else◌, ◌⊎◌}
use Rattle.std.proofs.Common.{slice_get, eqb-true, eq-eqb, Global}
use Rattle.std.proofs.lemmas.Bool.{cases_lt, cases_order}
use Rattle.std.proofs.lemmas.List.{get_or_past}
use Rattle.std.proofs.lemmas.Option.{none-some, same_Some, slice_get-get_or, slice_get_within}
use Rattle.hv_history.specs.declared.entry.Entry.{Entry}
use Rattle.hv_shared.specs.Counted.{IsCounted, StandsAt}
use Rattle.hv_shared.specs.Merge.{IsMerge, owned}
use Rattle.hv_shared.specs.Pass.{receipt}
use Rattle.hv_shared.specs.declared.receipts.Receipt.{Receipt}
use Rattle.hv_shared.proofs.PackedReceipts.{there_is}

abbrev Stands : List Receipt → Receipt → Type 0
Stands l r = (k : ℕ) × (slice_get l k ≡ Some r)

abbrev Rises : List Receipt → Type 0
Rises l = (k m : ℕ) (r s : Receipt) → slice_get l k ≡ Some r → slice_get l m ≡ Some s → k < m → r.number < s.number

-- the receipt is of an entry that i owns, with that entry's number
record IsFrom (i n : ℕ) (owners : List ℕ) (es : List (Entry Global)) (r : Receipt) : Type 0 where
  place : ℕ
  entry : Entry Global
  owner : slice_get owners place ≡ Some i
  at : slice_get es place ≡ Some entry
  number : r.number ≡ n + place
  event : r.event ≡ entry.event
  reply : r.reply ≡ entry.reply

is_receipt : (r : Receipt) (n : ℕ) (e : Entry Global) → r.number ≡ n → r.event ≡ e.event → r.reply ≡ e.reply → r ≡ receipt n e.event e.reply
is_receipt r n e number event reply = λ i. record { number = number i; event = event i; reply = reply i }

-- a list with perhaps one receipt more
cases_first : (b : Bool) (first : Receipt) (rest : List Receipt) (k : ℕ) (r : Receipt) → slice_get (if b then first ∷ rest else rest) k ≡ Some r → ((b ≡ true) × (first ≡ r)) ⊎ Stands rest r
cases_first true first rest zero r h = inl (refl, same_Some first r h)
cases_first true first rest (suc k) r h = inr (k, h)
cases_first false first rest k r h = inr (k, h)

past : (b : Bool) (first : Receipt) (rest : List Receipt) (r : Receipt) → Stands rest r → Stands (if b then first ∷ rest else rest) r
past true first rest r h = (suc h.0, h.1)
past false first rest r h = h

rises_first : (b : Bool) (first : Receipt) (rest : List Receipt) → Rises rest → ((s : Receipt) → Stands rest s → first.number < s.number) → Rises (if b then first ∷ rest else rest)
rises_first true first rest up above zero zero r s hr hs less = absurd (omega arith)
rises_first true first rest up above zero (suc m) r s hr hs less = subst (λ (x : Receipt). x.number < s.number) (same_Some first r hr) (above s (m, hs))
rises_first true first rest up above (suc k) zero r s hr hs less = absurd (omega arith)
rises_first true first rest up above (suc k) (suc m) r s hr hs less = up k m r s hr hs (omega arith)
rises_first false first rest up above k m r s hr hs less = up k m r s hr hs less

owned_from : (i n : ℕ) (owners : List ℕ) (es : List (Entry Global)) (r : Receipt) → Stands (owned i n owners es) r → IsFrom i n owners es r
owned_from i n [] es r h = absurd (none-some r h.1)
owned_from i n (o ∷ os) [] r h = absurd (none-some r h.1)
owned_from i n (o ∷ os) (e ∷ es) r h =
    elim (cases_first (o == i) (receipt n e.event e.reply) (owned i (n + 1) os es) h.0 r h.1) [
      | inl here ↦
          let number = ap (λ (x : Receipt). x.number) here.1 in
          record {
            place = 0;
            entry = e;
            owner = ap Some (eqb-true o i here.0);
            at = refl;
            number = omega arith;
            event = ap (λ (x : Receipt). x.event) (sym here.1);
            reply = ap (λ (x : Receipt). x.reply) (sym here.1);
          }
      | inr later ↦
          let f = owned_from i (n + 1) os es r later in
          let number = f.number in
          record { place = suc f.place; entry = f.entry; owner = f.owner; at = f.at; number = omega arith; event = f.event; reply = f.reply }
    ]

owned_there : (i n : ℕ) (owners : List ℕ) (es : List (Entry Global)) (m : ℕ) (e : Entry Global) (r : Receipt) → slice_get owners m ≡ Some i → slice_get es m ≡ Some e
    → r.number ≡ n + m → r.event ≡ e.event → r.reply ≡ e.reply → Stands (owned i n owners es) r
owned_there i n [] es m e r ho he number event reply = absurd (none-some i ho)
owned_there i n (o ∷ os) [] m e r ho he number event reply = absurd (none-some e he)
owned_there i n (o ∷ os) (x ∷ es) zero e r ho he number event reply =
    let same = sym (same_Some x e he) in
    let is = is_receipt r n x (omega arith) (event ∙ ap (λ (y : Entry Global). y.event) same) (reply ∙ ap (λ (y : Entry Global). y.reply) same) in
    rw (eq-eqb o i (same_Some o i ho)) (0, ap Some (sym is))
owned_there i n (o ∷ os) (x ∷ es) (suc m) e r ho he number event reply =
    past (o == i) (receipt n x.event x.reply) (owned i (n + 1) os es) r (owned_there i (n + 1) os es m e r ho he (omega arith) event reply)

rises : (i n : ℕ) (owners : List ℕ) (es : List (Entry Global)) → Rises (owned i n owners es)
rises i n [] es k m r s hr hs less = absurd (none-some r hr)
rises i n (o ∷ os) [] k m r s hr hs less = absurd (none-some r hr)
rises i n (o ∷ os) (e ∷ es) k m r s hr hs less =
    rises_first (o == i) (receipt n e.event e.reply) (owned i (n + 1) os es) (rises i (n + 1) os es) (λ s h. let number = (owned_from i (n + 1) os es s h).number in omega arith) k m r s hr hs less

-- rising lists of the same receipts are equal
first_same : (x y : Receipt) (xs ys : List Receipt) → Rises (x ∷ xs) → Rises (y ∷ ys) → (k m : ℕ) → slice_get (y ∷ ys) k ≡ Some x → slice_get (x ∷ xs) m ≡ Some y → x ≡ y
first_same x y xs ys up other zero m hx hy = sym (same_Some y x hx)
first_same x y xs ys up other (suc k) zero hx hy = same_Some x y hy
first_same x y xs ys up other (suc k) (suc m) hx hy =
    let one = up 0 (suc m) x y refl hy (omega arith) in
    let two = other 0 (suc k) y x refl hx (omega arith) in
    absurd (omega arith)

rest_stands : (x y : Receipt) (xs ys : List Receipt) → Rises (x ∷ xs) → x ≡ y → ((r : Receipt) → Stands (x ∷ xs) r → Stands (y ∷ ys) r) → (r : Receipt) → Stands xs r → Stands ys r
rest_stands x y xs ys up same to r h = behind (to r (suc h.0, h.1)).0 (to r (suc h.0, h.1)).1
  where
    behind : (k : ℕ) → slice_get (y ∷ ys) k ≡ Some r → Stands ys r
    behind zero at =
        let more = up 0 (suc h.0) x r refl h.1 (omega arith) in
        let number = ap (λ (z : Receipt). z.number) (same ∙ same_Some y r at) in
        absurd (omega arith)
    behind (suc k) at = (k, at)

same_list : (xs ys : List Receipt) → Rises xs → Rises ys → ((r : Receipt) → Stands xs r → Stands ys r) → ((r : Receipt) → Stands ys r → Stands xs r) → xs ≡ ys
same_list [] [] up other to from = refl
same_list [] (y ∷ ys) up other to from = absurd (none-some y (from y (0, refl)).1)
same_list (x ∷ xs) [] up other to from = absurd (none-some x (to x (0, refl)).1)
same_list (x ∷ xs) (y ∷ ys) up other to from =
    let a = to x (0, refl) in
    let b = from y (0, refl) in
    let same = first_same x y xs ys up other a.0 b.0 a.1 b.1 in
    let rest =
    same_list xs ys (λ k m r s hr hs less. up (suc k) (suc m) r s hr hs (omega arith)) (λ k m r s hr hs less. other (suc k) (suc m) r s hr hs (omega arith))
    (rest_stands x y xs ys up same to) (rest_stands y x ys xs other (sym same) from) in
    λ i. same i ∷ rest i

-- a merge counts the same events
module _ (history : List (Entry Global)) (lists : List (List Receipt)) (merge : IsMerge history lists) where
  from : (i k : ℕ) (r : Receipt) → StandsAt lists i k r → IsFrom i 1 merge.owners history r
  from i k r h = owned_from i 1 merge.owners history r (k, ap (λ (l : List Receipt). slice_get l k) (sym (merge.each i)) ∙ h)

  rising : (i : ℕ) → Rises (get_or lists i [])
  rising i = subst Rises (sym (merge.each i)) (rises i 1 merge.owners history)

  there : (n : ℕ) → 1 ≤ n → n ≤ length history → (i : ℕ) × (k : ℕ) × (r : Receipt) × StandsAt lists i k r × (r.number ≡ n)
  there n low high =
      let one = merge.one_each in
      let owner = there_is merge.owners (n - 1) (omega arith) in
      let entry = there_is history (n - 1) (omega arith) in
      let r = receipt n entry.0.event entry.0.reply in
      let at = owned_there owner.0 1 merge.owners history (n - 1) entry.0 r owner.1 entry.1 (omega arith) refl refl in
      (owner.0, at.0, r, ap (λ (l : List Receipt). slice_get l at.0) (merge.each owner.0) ∙ at.1, refl)

  once : (i k j l : ℕ) (r s : Receipt) → StandsAt lists i k r → StandsAt lists j l s → r.number ≡ s.number → (i ≡ j) × (k ≡ l)
  once i k j l r s hr hs same =
      let f = from i k r hr in
      let g = from j l s hs in
      let p = f.number in
      let q = g.number in
      let places : f.place ≡ g.place = omega arith in
      let ij = same_Some i j (sym f.owner ∙ ap (λ (m : ℕ). slice_get merge.owners m) places ∙ g.owner) in
      let other = subst (λ (x : ℕ). StandsAt lists x l s) (sym ij) hs in (
        ij,
        elim (cases_order k l) [
          | inl is ↦ is
          | inr (inl less) ↦ let up = rising i k l r s hr other less in absurd (omega arith)
          | inr (inr less) ↦ let up = rising i l k s r other hr less in absurd (omega arith)
        ],
      )

  pub counted : IsCounted history lists
  counted =
      record {
        there = there;
        once = once;
        within = λ i k r h. (
            let f = from i k r h in
            let number = f.number in
            let inside = slice_get_within history f.place f.entry f.at in
            (omega arith, omega arith)
            );
        rising = rising;
        same = λ i k r h. (
            let f = from i k r h in
            let number = f.number in
            let place : r.number - 1 ≡ f.place = omega arith in
            (f.entry, ap (λ (m : ℕ). slice_get history m) place ∙ f.at, f.event, f.reply)
            );
      }

-- a list of what there is for each number
record AreChosen (P : ℕ → ℕ → Type 0) (count : ℕ) : Type 0 where
  list : List ℕ
  long : length list ≡ count
  each : (m i : ℕ) → slice_get list m ≡ Some i → P m i

choose_first : (P : ℕ → ℕ → Type 0) (count : ℕ) → (i : ℕ) × P 0 i → AreChosen (λ m. P (suc m)) count → AreChosen P (suc count)
choose_first P count first rest = record { list = first.0 ∷ rest.list; long = ap suc rest.long; each = each }
  where
    each : (m i : ℕ) → slice_get (first.0 ∷ rest.list) m ≡ Some i → P m i
    each zero i h = subst (P 0) (same_Some first.0 i h) first.1
    each (suc m) i h = rest.each m i h

choose : (P : ℕ → ℕ → Type 0) (count : ℕ) → ((m : ℕ) → m < count → (i : ℕ) × P m i) → AreChosen P count
choose P zero there = record { list = []; long = refl; each = λ m i h. absurd (none-some i h) }
choose P (suc count) there = choose_first P count (there 0 (omega arith)) (choose (λ m. P (suc m)) count (λ m less. there (suc m) (omega arith)))

-- what counts the same events is a merge
module _ (history : List (Entry Global)) (lists : List (List Receipt)) (c : IsCounted history lists) where
  abbrev IsOwner : ℕ → ℕ → Type 0
  IsOwner m i = (k : ℕ) × (r : Receipt) × StandsAt lists i k r × (r.number ≡ 1 + m)

  chosen : AreChosen IsOwner (length history)
  chosen = choose IsOwner (length history) (λ m less. let f = c.there (1 + m) (omega arith) (omega arith) in (f.0, (f.1, f.2, f.3, f.4)))

  in_lists : (i k : ℕ) (r : Receipt) → StandsAt lists i k r → i < length lists
  in_lists i k r h =
      elim (cases_lt i (length lists)) [
        | inl less ↦ less
        | inr over ↦ absurd (none-some r (ap (λ (l : List Receipt). slice_get l k) (sym (get_or_past lists i [] over)) ∙ h))
      ]

  to : (i : ℕ) (r : Receipt) → Stands (get_or lists i []) r → Stands (owned i 1 chosen.list history) r
  to i r h =
      let within = c.within i h.0 r h.1 in
      let low = within.0 in
      let high = within.1 in
      let same = c.same i h.0 r h.1 in
      let long = chosen.long in
      let owner = there_is chosen.list (r.number - 1) (omega arith) in
      let its = chosen.each (r.number - 1) owner.0 owner.1 in
      let number = its.3 in
      let is = (c.once owner.0 its.0 i h.0 its.1 r its.2 h.1 (omega arith)).0 in
      owned_there i 1 chosen.list history (r.number - 1) same.0 r (owner.1 ∙ ap Some is) same.1 (omega arith) same.2 same.3

  back : (i : ℕ) (r : Receipt) → Stands (owned i 1 chosen.list history) r → Stands (get_or lists i []) r
  back i r h =
      let f = owned_from i 1 chosen.list history r h in
      let its = chosen.each f.place i f.owner in
      let same = c.same i its.0 its.1 its.2 in
      let place : its.1.number - 1 ≡ f.place = (let number = its.3 in omega arith) in
      let entry = same_Some f.entry same.0 (sym f.at ∙ ap (λ (m : ℕ). slice_get history m) (sym place) ∙ same.1) in
      let is : its.1 ≡ r =
      λ j. record {
        number = (its.3 ∙ sym f.number) j;
        event = (same.2 ∙ sym (f.event ∙ ap (λ (e : Entry Global). e.event) entry)) j;
        reply = (same.3 ∙ sym (f.reply ∙ ap (λ (e : Entry Global). e.reply) entry)) j;
      } in
      (its.0, its.2 ∙ ap Some is)

  pub merge : IsMerge history lists
  merge =
      record {
        owners = chosen.list;
        one_each = chosen.long;
        there = λ m d less. (
            let its = chosen.each m (get_or chosen.list m d) (slice_get-get_or chosen.list m d less) in
            in_lists (get_or chosen.list m d) its.0 its.1 its.2
            );
        each = λ i. same_list (get_or lists i []) (owned i 1 chosen.list history) (c.rising i) (rises i 1 chosen.list history) (to i) (back i);
      }
