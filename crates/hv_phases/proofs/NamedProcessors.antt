-- The processors that lines name.
use Rattle.std.proofs.Common.{◌≡◌, ℕ, ◌+◌, ◌<◌, List, [], ◌∷◌, ◌++◌, length, get_or, take, sym, ap, ◌∙◌, subst, arith, Bool, true, false, ◌||◌, All}
use Rattle.std.proofs.Common.{if◌then◌else◌, map, refl, Contains, Global}
use Rattle.std.specs.Bool.{Decides}
use Rattle.std.specs.List.{IsDistinct, list_any}
use Rattle.std.proofs.lemmas.List.{get_or-map, length-map, map-append, take_more}
use Rattle.std.proofs.lemmas.List.Elements.{All-push, Contains-append_left}
use Rattle.std.proofs.lemmas.Map.Made.{AllPairs-from_IsDistinct}
use Rattle.hv_policy.specs.declared.event.Caller.{Caller}
use Rattle.hv_phases.specs.PassMap.{AreCallersOf, is_key, key_of}
use Rattle.hv_phases.specs.Lines.{callers_in}
use Rattle.hv_phases.proofs.AskedOfProcessor.{decides}
use Rattle.hv_script.specs.declared.line.Line.{Line}
use Rattle.hv_shared.specs.ByCaller.{AreDifferent, is_caller}
use Rattle.indexmap.proofs.CallerLemmas.{Contains-insert_key}
use Rattle.indexmap.specs.IndexSet.{insert_key}

-- the processor with this key
abbrev pub caller_of : ℕ × ℕ → Caller
caller_of key = record { part = key.0; vp = key.1 }

key_decides : (a b : ℕ × ℕ) → Decides (is_key a b) (a ≡ b)
key_decides a b =
    let d = decides (caller_of b) (caller_of a) in
    ((λ is. ap key_of (sym (d.0 is))), (λ same. d.1 (ap caller_of (sym same))))

different : (keys : List (ℕ × ℕ)) → IsDistinct is_key keys → AreDifferent (map caller_of keys)
different keys unique i j c less more same =
    let many = length-map keys caller_of in
    let h : i < length keys = omega (arith, less, many) in
    let k : j < length keys = omega (arith, more, many) in
    let pairs = AllPairs-from_IsDistinct key_decides keys unique in
    let one : get_or keys i (key_of c) ≡ get_or keys j (key_of c) = ap key_of (sym (get_or-map caller_of keys i (key_of c) c h) ∙ same
    ∙ get_or-map caller_of keys j (key_of c) c k) in
    let low : i < j → ⊥ = λ l. pairs i j (key_of c) l k one in
    let high : j < i → ⊥ = λ l. pairs j i (key_of c) l h (sym one) in
    omega arith

-- the keys of these lines' processors are all there, each once
pub all_callers : (lines : List (Line Global)) (keys : List (ℕ × ℕ)) (callers : List Caller) → IsDistinct is_key keys
    → All (λ line. Contains keys (key_of line.by)) lines
    → callers ≡ map caller_of keys → AreCallersOf lines callers
all_callers lines keys callers unique there is =
    subst (AreCallersOf lines) (sym is)
    (record {
      different = different keys unique;
      named = λ k d h.
          let by = (get_or lines k d).by in
          let t = there k d h in
          (t.0, (let l = t.1 in let m = length-map keys caller_of in omega arith), get_or-map caller_of keys t.0 (key_of by) by t.1 ∙ ap caller_of t.2);
    })

stays : (b : Bool) (keys : List (ℕ × ℕ)) (key q : ℕ × ℕ) → Contains keys q → Contains (if b then keys else keys ++ key ∷ []) q
stays true keys key q there = there
stays false keys key q there = Contains-append_left keys (key ∷ []) q there

-- one line more was looked at
pub one_more : (lines : List (Line Global)) (i : ℕ) (d : Line Global) (keys : List (ℕ × ℕ)) → i < length lines
    → All (λ line. Contains keys (key_of line.by)) (take i lines)
    → All (λ line. Contains (insert_key is_key keys (key_of (get_or lines i d).by)) (key_of line.by)) (take (i + 1) lines)
one_more lines i d keys h so_far =
    let key = key_of (get_or lines i d).by in
    let P : Line Global → Type 0 = λ (line : Line Global). Contains (insert_key is_key keys key) (key_of line.by) in
    subst (All P) (sym (take_more lines i d h))
    (All-push P (take i lines) (get_or lines i d) (λ k e lt. stays (list_any (is_key key) keys) keys key _ (so_far k e lt))
    (Contains-insert_key is_key (λ x y. (key_decides x y).0) keys key))

-- the processors after one line more
abbrev add : List Caller → Caller → List Caller
add seen by = if list_any (λ (c : Caller). is_caller c by) seen then seen else seen ++ by ∷ []

callers_more : (seen : List Caller) (lines : List (Line Global)) (line : Line Global)
    → callers_in seen (lines ++ line ∷ []) ≡ add (callers_in seen lines) line.by
callers_more seen [] line = refl
callers_more seen (first ∷ lines) line = callers_more (add seen first.by) lines line

any_caller : (keys : List (ℕ × ℕ)) (by : Caller) → list_any (λ (c : Caller). is_caller c by) (map caller_of keys) ≡ list_any (is_key (key_of by)) keys
any_caller [] by = refl
any_caller (key ∷ keys) by = ap (λ (b : Bool). is_key (key_of by) key || b) (any_caller keys by)

add_if : (b c : Bool) (keys : List (ℕ × ℕ)) (by : Caller) → c ≡ b → map caller_of (if b then keys else keys ++ key_of by ∷ []) ≡
    (if c then map caller_of keys else map caller_of keys ++ by ∷ [])
add_if true c keys by is = ap (λ (t : Bool). if t then map caller_of keys else map caller_of keys ++ by ∷ []) (sym is)
add_if false c keys by is = map-append caller_of keys (key_of by ∷ []) ∙ ap (λ (t : Bool). if t then map caller_of keys else map caller_of keys ++ by ∷ [])
    (sym is)

-- the keys of one line more are those of its processors in order
pub in_order_more : (lines : List (Line Global)) (i : ℕ) (d : Line Global) (keys : List (ℕ × ℕ)) → i < length lines
    → map caller_of keys ≡ callers_in [] (take i lines)
    → map caller_of (insert_key is_key keys (key_of (get_or lines i d).by)) ≡ callers_in [] (take (i + 1) lines)
in_order_more lines i d keys h so_far =
    let by = (get_or lines i d).by in
    add_if (list_any (is_key (key_of by)) keys) (list_any (λ (c : Caller). is_caller c by) (map caller_of keys)) keys by (any_caller keys by)
    ∙ ap (λ (cs : List Caller). add cs by) so_far
    ∙ sym (callers_more [] (take i lines) (get_or lines i d))
    ∙ ap (callers_in []) (sym (take_more lines i d h))
