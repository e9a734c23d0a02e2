use Rattle.mic1_datapath.proofs.latches.Latches.ports.Goals as goal

pub returns : goal.returns
returns c = λ i. record { mar = c.mar_port-mar.ensures i; mdr = c.mdr_port-mdr.ensures i; pc = c.pc_port-pc.ensures i }
