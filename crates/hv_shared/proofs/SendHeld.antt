-- What the lock holds may go to another thread.
use denote.RattleType.{RattleType}
use denote.Param.Send.{IsSend, IsSync, plain_sync, recorded_send, recorded_sync, sendable, struct_send, struct_sync, view_send, view_sync}
use denote.Struct.Declared.{shape}
use Rattle.std.proofs.Crossing.{crosses}
use Rattle.std.specs.contracts.alloc.Global as Heap
use Rattle.std.specs.declared.sync.ledger.Ledger as Ledger
use Rattle.std.specs.contracts.impls.GlobalAllocator.TheImpl.{ghosts}
use Rattle.hv_history.specs.contracts.kept.Kept as Kept
use Rattle.hv_history.specs.contracts.row.History as History
use Rattle.hv_machine.specs.contracts.machine.Machine as Machine
use Rattle.hv_mail.proofs.tree.Tree.TheLaws.TheKnot as counted
use Rattle.hv_mail.specs.contracts.mailbox.Mailbox as Mailbox
use Rattle.hv_pages.specs.contracts.page_set.PageSet as PageSet
use Rattle.hv_partition.specs.contracts.partition.Partition as Partition
use Rattle.hv_policy.proofs.config.Config.TheSendSync as config
use Rattle.hv_shared.specs.contracts.held.Held as Held
use Rattle.hv_shared.specs.contracts.held.Held.TheInside as InHeld
use Rattle.hv_shared.specs.contracts.held.settlement.Unsettled as Unsettled
use Rattle.hv_shared.specs.contracts.shared.Shared.TheInside as InShared
use Rattle.std.proofs.sync.ledger.Book.TheSendSync as book
use Rattle.hv_shared.specs.contracts.shared.Shared as Shared
use Rattle.hv_tree.proofs.node.Branch.TheLaws.TheKnot as knot
use Rattle.hv_tree.specs.contracts.tree.IdTree as IdTree
use Rattle.hv_vp.specs.contracts.vp.Vp as Vp
use Rattle.hv_vp.specs.contracts.vps.Vps as Vps

pub pages-send : IsSend (PageSet.the_row Heap.the_row ghosts)
pages-send = search (sendable, crosses) depth 40

pub mailbox-send : IsSend (Mailbox.the_row Heap.the_row ghosts)
mailbox-send = search (crosses, counted.crosses, sendable) depth 60 fits 20000

pub vp-send : IsSend (Vp.the_row Heap.the_row ghosts)
vp-send = search (sendable, crosses, mailbox-send) depth 40

pub vps-send : IsSend (Vps.the_row Heap.the_row ghosts)
vps-send = search (sendable, crosses, vp-send) depth 40

pub partition-send : IsSend (Partition.the_row Heap.the_row ghosts)
partition-send = search (sendable, crosses, vps-send, pages-send) depth 60 fits 20000

pub tree-send : IsSend (IdTree.the_row (Partition.the_row Heap.the_row ghosts) Heap.the_row ghosts)
tree-send = search (partition-send, crosses, knot.crosses, sendable) depth 60 fits 20000

pub machine-send : IsSend (Machine.the_row Heap.the_row ghosts)
machine-send = search (tree-send, crosses, sendable) depth 40

-- as a field of what is kept, which is how the search meets it
pub history-send : IsSend (History.the_field Heap.the_row ghosts).row
history-send = search (crosses, sendable) depth 60 fits 20000

pub kept-send : IsSend (Kept.the_row Heap.the_row ghosts)
kept-send = search (machine-send, history-send, crosses, sendable) depth 60 fits 20000

pub history-sync : IsSync (History.the_field Heap.the_row ghosts).row
history-sync = search (crosses, sendable) depth 60 fits 20000

pub rest-sync : IsSync Unsettled.the_row
rest-sync = search (history-sync, crosses, sendable) depth 60 fits 20000

module _ (T : RattleType) (g : Ledger.Ghosts T.Denot) where
  pub held-send : IsSend (Held.the_row T g)
  held-send =
      view_send (InHeld.the_row T g) _ _ _ _
      (recorded_send (InHeld.the_field T g).row _ _ (InHeld.the_type T g).to_one
      (struct_send (shape (InHeld.the_type T g)) (kept-send, (book.the_send T g, (search (crosses, sendable) depth 60 fits 20000, tt)))))

  pub shared-sync : IsSync (Shared.the_row T g)
  shared-sync =
      view_sync (InShared.the_row T g) _ _ _ _
      (recorded_sync (InShared.the_field T g).row _ _ (InShared.the_type T g).to_one
      (struct_sync (shape (InShared.the_type T g))
      (search (held-send, crosses) depth 10, (plain_sync _ _ _ _ _, (config.the_field_sync, (plain_sync _ _ _ _ _, (search (rest-sync, crosses) depth 10, tt)))))))
