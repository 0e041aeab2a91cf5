use Rattle.std.proofs.Common.{ℕ, List, [], ◌++◌, Option, append-nil, subst, sym}
use Rattle.std.proofs.lemmas.Result.{on_ok_weaker}
use Rattle.hv_text.specs.Fault.{HasSent}
use Rattle.hv_text.proofs.WrittenText.{sent-all, sent-none}
use Rattle.hv_text.proofs.put.put_bytes.Goals as goal

-- nothing of the text has gone out yet, and nothing follows it
none : (old : Option (List ℕ)) (text : List ℕ) → HasSent old old text (text ++ []) 0
none old text = subst (λ (t : List ℕ). HasSent old old text t 0) (sym (append-nil text)) (sent-none old text)

pub returns-clause-ok : goal.returns-clause-ok
returns-clause-ok g c = on_ok_weaker c.put_counted.result (sent-all _ _ _ _) (c.put_counted.ensures.ok _ _ [] (none (g.W.Write.contents c.args.out.now) c.args.text.now))

pub returns-clause-cut : goal.returns-clause-cut
returns-clause-cut g c = c.put_counted.ensures.cut _ _ [] (none (g.W.Write.contents c.args.out.now) c.args.text.now)
