-- What a tree keeps, once its rows change.
use Rattle.std.proofs.Common.{◌≡◌, ℕ, Bool, true, false, ◌==◌, inl, inr, Option, None, Some, List, [], ◌∷◌, ◌++◌, refl, sym, ap, ◌∙◌, subst, is_some, eq-eqb, MutBor, IfSome, IfNone, option_map}
use Rattle.std.proofs.Common.{nat_cmp, eqb-true}
use borrow.Follows.Closed.{read_of}
use Rattle.std.specs.Option.{ghost_name_of, option_copied_mut}
use Rattle.std.specs.List.Sorted.{IsNonDecreasing}
use Rattle.std.specs.FinMap.{get, from_entries, contains_key}
use Rattle.std.proofs.lemmas.Bool.{cases_Bool}
use Rattle.hv_tree.specs.declared.node.Branch.{Branch}
use Rattle.hv_tree.specs.declared.node.Node.{Node, out-Node, roll-out-Node}
use Rattle.hv_tree.specs.Rows.{Row, Rows, change, content, children_in}
use Rattle.hv_tree.specs.Nest.{Line, AreDistinct, IsNest, IsGrownBy, IsWithout, has_row, look, put_at, first_content}
use Rattle.hv_tree.specs.Full.{full, IsFilled, IsWhole}
use Rattle.hv_tree.specs.Edited.{IsEditedFrom}
use Rattle.hv_tree.specs.Index.{IsKept, IsLaid}
use Rattle.hv_tree.specs.Put.{content_of, put_content, put_content_far, put_content_in, put_far, reach, IsContentAt}
use Rattle.hv_tree.specs.Lines.{lines}
use Rattle.hv_tree.proofs.ChildLists.{kids-append}
use Rattle.hv_tree.proofs.Laws.{same_rows, get-change}
use Rattle.hv_tree.proofs.WrittenContent.{look-put, distinct-put, kids-put, length-put}
use Rattle.hv_tree.proofs.TreeAsMap.{IsShown, IsTree-seen, get-seen, filled, get-listed, look-full, get_none, has-seen}
use Rattle.hv_tree.proofs.IndexUpdates.{index-put}
use Rattle.hv_tree.proofs.EditedSubtree.{kids-edited, edited-shown, index-edited, subtree-edited, others-kept, parents-kept, subtree-absent}
use Rattle.hv_tree.specs.Way.{IsReached}
use Rattle.hv_tree.specs.Subtree.{IsInSubtree}
use Rattle.hv_tree.proofs.Levels.{node-lines}
use Rattle.hv_tree.proofs.NestedRows.{nest}
use Rattle.hv_tree.proofs.ChangedNode.{lines-put}
use Rattle.hv_tree.proofs.InsertedAtWay.{same_far, same_name}

pub laid : {T : Type 0} {es : List (Line T)} {n : ℕ} {up : ℕ → Option ℕ} → IsKept es n up → IsLaid es up
laid k = record { distinct = k.sound.distinct; indexed = k.indexed; rising = k.rising; fits = k.sound.fits }

pub shown : {T : Type 0} {es : List (Line T)} {n : ℕ} {up : ℕ → Option ℕ} (m : Rows T) → IsKept es n up → from_entries (full es) ≡ m → IsShown es n m
shown m k e = record { sound = k.sound; seen = e }

-- children of other nodes than the parent
other_kids : {T : Type 0} (p q x : ℕ) (c : Option T) (xs ys : List (Line T)) → (x == p) ≡ false → children_in x (xs ++ ((q, (Some p, c)) ∷ ys)) ≡ children_in x (xs ++ ys)
other_kids p q x c xs ys off = kids-append x xs ((q, (Some p, c)) ∷ ys) ∙ (rw off (sym (kids-append x xs ys)))

pub rising-grown : {T : Type 0} (es new : List (Line T)) (p q : ℕ) (c : Option T) → IsGrownBy p ((q, (None, c)) ∷ []) es new → ((x : ℕ) → IsNonDecreasing (children_in x es)) → IsNonDecreasing
    (children_in p new) → (x : ℕ) → IsNonDecreasing (children_in x new)
rising-grown es new p q c (xs, (ys, (was, is))) r here x = elim (cases_Bool (x == p)) [
  | inl t ↦ subst (λ y. IsNonDecreasing (children_in y new)) (sym (eqb-true x p t)) here
  | inr t ↦ subst (λ l. IsNonDecreasing l) (ap (children_in x) was ∙ sym (ap (children_in x) is ∙ other_kids p q x c xs ys t)) (r x)
]

pub rising-gone : {T : Type 0} (es new : List (Line T)) (p q : ℕ) (c : Option T) (w : IsWithout q c es new) → w.parent ≡ p → ((x : ℕ) → IsNonDecreasing (children_in x es)) → IsNonDecreasing
    (children_in p new) → (x : ℕ) → IsNonDecreasing (children_in x new)
rising-gone es new p q c w e r here x = elim (cases_Bool (x == w.parent)) [
  | inl t ↦ subst (λ y. IsNonDecreasing (children_in y new)) (sym (eqb-true x w.parent t ∙ e)) here
  | inr t ↦ subst (λ l. IsNonDecreasing l) (ap (children_in x) w.was ∙ other_kids w.parent q x c w.before w.after t ∙ sym (ap (children_in x) w.is)) (r x)
]

pub rising-edited : {T : Type 0} {f : T → T} {id : ℕ} {es new : List (Line T)} → IsEditedFrom f id es new → ((x : ℕ) → IsNonDecreasing (children_in x es)) → (x : ℕ) → IsNonDecreasing
    (children_in x new)
rising-edited {f = f} {es = es} w r x = subst (λ l. IsNonDecreasing l) (sym (ap (children_in x) w.is ∙ kids-edited f w.part x es)) (r x)

write_here : {T : Type 0} (v : T) (o : Option (Option ℕ × Option T)) → IsFilled o
    → (filled (option_map (λ r. (r.0, Some v)) o) ≡ option_map (λ r. (r.0, v)) (filled o)) × IsFilled (option_map (λ r. (r.0, Some v)) o)
write_here v None h = (refl, tt)
write_here v (Some (p, None)) h = cc
write_here v (Some (p, Some c)) h = (refl, refl)

-- a content is written
module _ {T : Type 0} {es : List (Line T)} {n : ℕ} {m : Rows T} (s : IsShown es n m) (q : ℕ) (v : T) where
  put-distinct : AreDistinct (put_at q (Some v) es)
  put-distinct = distinct-put q (Some v) es s.sound.distinct

  put-whole : IsWhole (put_at q (Some v) es)
  put-whole = λ x. rw (look-put x q (Some v) es) (elim (cases_Bool (x == q)) [
    | inl t ↦ rw t ((write_here v (look x es) (s.sound.whole x)).1)
    | inr t ↦ rw t (s.sound.whole x)
  ])

  pub put-shown : IsNest (put_at q (Some v) es) → IsShown (put_at q (Some v) es) n (change m q (λ _. v))
  put-shown nest = record {
    sound = record {
      distinct = put-distinct;
      nest = nest;
      whole = put-whole;
      counted = rw (length-put q (Some v) es) s.sound.counted;
      fits = rw (length-put q (Some v) es) s.sound.fits;
      few = λ x. rw (kids-put x q (Some v) es) (s.sound.few x);
    };
    seen = same_rows _ _ (λ x.
        get-listed (full (put_at q (Some v) es)) x ∙ look-full (put_at q (Some v) es) put-distinct put-whole x
        ∙ (rw (look-put x q (Some v) es, get-change m q (λ _. v) x) (elim (cases_Bool (x == q)) [
          | inl t ↦ rw (t, ← eqb-true x q t, get-seen s x) ((write_here v (look x es) (s.sound.whole x)).0)
          | inr t ↦ rw t (sym (get-seen s x))
        ])));
  }

module _ {T A : Type 0} (up : ℕ → Option ℕ) (count : ℕ) (is : List ℕ) (b : Branch T A) (k : IsKept (lines b) count up) where
  kept_in : (c : T) (o : Option (Node T A)) → reach is b ≡ o → IsKept (lines (put_content_in is b c o)) count up
  kept_in c None e = k
  kept_in c (Some n) e =
      let q = (out-Node T A n).id in
      let at = (lines-put is b n e k.sound.distinct c).0 in
      let s : IsShown (lines b) count (from_entries (full (lines b))) = record { sound = k.sound; seen = refl } in
      let put = put-shown s q c (subst (λ es. IsNest es) at (nest (put_far is b (put_content n c)))) in
      subst (λ es. IsKept es count up) (sym at) (record {
        sound = put.sound;
        indexed = index-put q (Some c) (lines b) up k.indexed;
        rising = λ x. subst (λ l. IsNonDecreasing l) (sym (kids-put x q (Some c) (lines b))) (k.rising x);
      })

  -- whatever is written, the tree keeps what it keeps
  pub kept-written : (c : T) → IsKept (lines (put_content_far is b c)) count up
  kept-written c = kept_in c (reach is b) refl

  -- the rows after a write, where the way leads to the node with the id
  pub seen-written : (m : Rows T) → from_entries (full (lines b)) ≡ m → (q : ℕ) (now v : T) → IsContentAt is q b now → from_entries (full (lines (put_content_far is b v))) ≡ change m q (λ _. v)
  seen-written m e q now v (n, led, id, has) =
      let at = (lines-put is b n led k.sound.distinct v).0 in
      let s : IsShown (lines b) count m = record { sound = k.sound; seen = e } in
      ap (λ o. from_entries (full (lines (put_content_in is b v o)))) led
      ∙ ap (λ es. from_entries (full es)) at
      ∙ (put-shown s (out-Node T A n).id v (subst (λ es. IsNest es) at (nest (put_far is b (put_content n v))))).seen
      ∙ ap (λ x. change m x (λ _. v)) id

  -- the content where the way leads is the row's
  pub content-at : (m : Rows T) → from_entries (full (lines b)) ≡ m → (q : ℕ) (now : T) → IsContentAt is q b now → content m q ≡ Some now
  content-at m e q now (n, led, id, has) = by (get m q) refl
    where
      same : put_content_far is b now ≡ b
      same =
          ap (put_content_in is b now) led
          ∙ ap (put_far is b) (ap (λ c. put_content n c) (sym has) ∙ roll-out-Node T A n)
          ∙ same_far is b n led

      fixed : m ≡ change m q (λ _. now)
      fixed = sym e ∙ ap (λ x. from_entries (full (lines x))) (sym same) ∙ seen-written m e q now now (n, led, id, has)

      row : get m q ≡ option_map (λ r. (r.0, now)) (get m q)
      row = ap (λ x. get x q) fixed ∙ get-change m q (λ _. now) q ∙ (rw (eq-eqb q q refl) refl)

      there : is_some (get m q) ≡ true
      there = has-seen (record { sound = k.sound; seen = e }) q ∙ ap (λ x. has_row x (lines b)) (sym id) ∙ (lines-put is b n led k.sound.distinct now).1

      by : (o : Option (Row T)) → get m q ≡ o → option_map (λ r. r.1) o ≡ Some now
      by None h = absurd (let f : false ≡ true = ap is_some (sym h) ∙ there in cc)
      by (Some r) h = ap (option_map (λ r. r.1)) (sym h ∙ row ∙ ap (option_map (λ r. (r.0, now))) h)

  -- what is lent, if it is, and how the rows end
  pub lent-if : (o : Option (MutBor T)) (m : Rows T) → from_entries (full (lines b)) ≡ m → (q : ℕ) → IfSome o (λ r. IsContentAt is q b r.now) → IfNone o (has_row q (lines b) ≡ false)
      → (read_of (ghost_name_of o) (λ v. from_entries (full (lines (put_content_far is b v)))) (from_entries (full (lines b))) ≡ read_of (ghost_name_of o) (λ v. change m q (λ _. v)) m)
      × (option_copied_mut o ≡ content m q)
  lent-if None m e q h lacks = (ap inr e, sym (get_none {n = count} (record { sound = k.sound; seen = e }) q (λ r. r.1) lacks))
  lent-if (Some r) m e q h lacks = (ap inl (same_name (λ v. seen-written m e q r.now v h)), sym (content-at m e q r.now h))

got_here : {T : Type 0} (o : Option (Option ℕ × Option T)) (c : T) → Some (Some c) ≡ option_map (λ r. r.1) o → Some c ≡ option_map (λ r. r.1) (filled o)
got_here None c e = cc
got_here (Some (p, None)) c e = cc
got_here (Some (p, Some d)) c e = cc

module _ {T A : Type 0} where
  -- the content of the node that is reached
  pub got : {n : ℕ} {m : Rows T} {es : List (Line T)} → IsShown es n m → (up : ℕ → Option ℕ) (q : ℕ) (b : Branch T A) (node : Node T A) → es ≡ lines b → IsReached up q b node → Some (content_of node)
      ≡ content m q
  got {m = m} {es = es} s up q b node same r =
      let held : Some (Some (content_of node)) ≡ option_map (λ r. r.1) (look q (lines b)) = ap (λ l. Some (first_content l)) (sym (node-lines node)) ∙ r.found.content in
      rw (get-seen s q) (got_here (look q es) (content_of node) (held ∙ ap (λ l. option_map (λ r. r.1) (look q l)) (sym same)))

-- the rows stay, and the index says what it said
pub kept-same : {T : Type 0} {es new : List (Line T)} {n : ℕ} {up later : ℕ → Option ℕ} → new ≡ es → ((q : ℕ) → later q ≡ up q) → IsKept es n up → IsKept new n later
kept-same {n = n} {later = later} e same k = subst (λ l. IsKept l n later) (sym e) (record { sound = k.sound; indexed = λ q. same q ∙ k.indexed q; rising = k.rising })

-- an edit, which may have found no node
pub edited-kept : {T : Type 0} {f : T → T} {id : ℕ} {es new : List (Line T)} {n : ℕ} {up : ℕ → Option ℕ} (r : Bool) → (r ≡ true → IsEditedFrom f id es new) → (r ≡ false → new ≡ es) → IsNest new →
    (m : Rows T) → from_entries (full es) ≡ m → IsKept es n up → IsKept new n up
edited-kept {up = up} true edited stays nest m e k =
    let w = edited refl in
    record { sound = (edited-shown (shown m k e) w nest).sound; indexed = index-edited up w k.indexed; rising = rising-edited w k.rising }
edited-kept {n = n} {up = up} false edited stays nest m e k = subst (λ l. IsKept l n up) (sym (stays refl)) k

module _ {T : Type 0} {f : T → T} {id : ℕ} {es new : List (Line T)} {n : ℕ} {m : Rows T} where
  pub edited-get : (r : Bool) → IsShown es n m → r ≡ contains_key m id → (r ≡ true → IsEditedFrom f id es new) → (r ≡ false → new ≡ es) → IsNest new
      → (q : ℕ) → IsInSubtree m id q → get (from_entries {R = nat_cmp} (full new)) q ≡ option_map (λ r. (r.0, f r.1)) (get m q)
  edited-get true s found edited stays nest q h = subtree-edited s (edited refl) nest q h
  edited-get false s found edited stays nest q h =
      let none : get m q ≡ None = subtree-absent m id (IsTree-seen s) (sym found) h.0 q h.1 in
      ap (λ l. get (from_entries {R = nat_cmp} (full l)) q) (stays refl) ∙ ap (λ x. get x q) s.seen ∙ none ∙ sym (ap (option_map (λ r. (r.0, f r.1))) none)

  pub others-get : (r : Bool) → IsShown es n m → (r ≡ true → IsEditedFrom f id es new) → (r ≡ false → new ≡ es) → IsNest new
      → (q : ℕ) → (IsInSubtree m id q → ⊥) → get (from_entries {R = nat_cmp} (full new)) q ≡ get m q
  others-get true s edited stays nest q h = others-kept s (edited refl) nest q h
  others-get false s edited stays nest q h = ap (λ l. get (from_entries {R = nat_cmp} (full l)) q) (stays refl) ∙ ap (λ x. get x q) s.seen

  pub parents-get : (r : Bool) → IsShown es n m → (r ≡ true → IsEditedFrom f id es new) → (r ≡ false → new ≡ es) → IsNest new
      → (q : ℕ) → option_map (λ r. r.0) (get (from_entries {R = nat_cmp} (full new)) q) ≡ option_map (λ r. r.0) (get m q)
  parents-get true s edited stays nest q = parents-kept s (edited refl) nest q
  parents-get false s edited stays nest q = ap (λ l. option_map (λ r. r.0) (get (from_entries {R = nat_cmp} (full l)) q)) (stays refl) ∙ ap (λ x. option_map (λ r. r.0) (get x q)) s.seen
