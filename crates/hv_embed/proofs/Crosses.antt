-- A machine may go to another thread, with what it is housed with.
use denote.Param.Send.{IsSend, sendable}
use Rattle.std.proofs.Crossing.{crosses}
use Rattle.std_heap.specs.contracts.Global as Heap
use Rattle.std_heap.specs.contracts.GlobalAllocator.TheImpl.{ghosts}
use Rattle.hv_machine.specs.contracts.machine.Machine as Machine
use Rattle.hv_mail.proofs.tree.Tree.TheLaws.TheKnot as counted
use Rattle.hv_mail.specs.contracts.mailbox.Mailbox as Mailbox
use Rattle.hv_partition.specs.contracts.partition.Partition as Partition
use Rattle.hv_tree.proofs.node.Branch.TheLaws.TheKnot as knot
use Rattle.hv_tree.specs.contracts.tree.IdTree as IdTree
use Rattle.hv_embed.specs.Holds.{machine_row}

mailbox-send : IsSend (Mailbox.the_row Heap.the_row ghosts)
mailbox-send = search (crosses, counted.crosses, sendable) depth 60 fits 20000

partition-send : IsSend (Partition.the_row Heap.the_row ghosts)
partition-send = search (sendable, crosses, mailbox-send) depth 60 fits 20000

tree-send : IsSend (IdTree.the_row (Partition.the_row Heap.the_row ghosts) Heap.the_row ghosts)
tree-send = search (partition-send, crosses, knot.crosses, sendable) depth 60 fits 20000

bare-send : IsSend (Machine.the_row Heap.the_row ghosts)
bare-send = search (tree-send, crosses, sendable) depth 40

pub machine-send : IsSend machine_row
machine-send = search (bare-send, crosses, sendable) depth 40
