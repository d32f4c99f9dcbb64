-- The words of the kernel, from address 400 (octal) on, with its listing. Numbers in comments are octal.
use Rattle.std.specs.Prelude.{ℕ, List, [], ◌∷◌}

-- Variables: cur = 2000 (the descriptor of what acts, or 0), bound = 2002 (its bound), ready = 2004 and last = 2006 (the first of
-- the ready list, and the address of the link behind its last), free = 2010 (the first free descriptor). Slots of vectors: reader
-- = 2020, punch = 2024, keys = 2030, printer = 2034, clock = 2040, each the descriptor at doio or 0, and started or 0. The
-- kernel's own stack ends at 2400.
-- A descriptor: link 0, rank 2, dsp 4, dbound 6, below 10, slot 12, top 14. A record of a process: code 0, params 2, rslot 4,
-- priority 6.
-- A frame of a suspended process is R0 R1 R2 R3 R4 R5 PC PS from its stack pointer up. R3 is the current descriptor (0: none)
-- where an entry begins, R0 and R1 are its arguments.
unfoldable pub kernel_words : List ℕ
kernel_words =
    -- 000400  emt:     MOV R5, -(SP)               the frame
    0o010546 ∷
    -- 000402           MOV R4, -(SP)
    0o010446 ∷
    -- 000404           MOV R3, -(SP)
    0o010346 ∷
    -- 000406           MOV R2, -(SP)
    0o010246 ∷
    -- 000410           MOV R1, -(SP)
    0o010146 ∷
    -- 000412           MOV R0, -(SP)
    0o010046 ∷
    -- 000414           MOV @#cur, R3
    0o013703 ∷ 0o002000 ∷
    -- 000420           MOV SP, dsp(R3)
    0o010663 ∷ 0o000004 ∷
    -- 000424           JMP (R5)                    to wait, send, doio, end or start
    0o000115 ∷
    -- 000426  vreader: MOV R5, -(SP)               the five stubs of grants
    0o010546 ∷
    -- 000430           MOV #reader, R5
    0o012705 ∷ 0o002020 ∷
    -- 000434           BR interrupt
    0o000417 ∷
    -- 000436  vpunch:  MOV R5, -(SP)
    0o010546 ∷
    -- 000440           MOV #punch, R5
    0o012705 ∷ 0o002024 ∷
    -- 000444           BR interrupt
    0o000413 ∷
    -- 000446  vkeys:   MOV R5, -(SP)
    0o010546 ∷
    -- 000450           MOV #keys, R5
    0o012705 ∷ 0o002030 ∷
    -- 000454           BR interrupt
    0o000407 ∷
    -- 000456  vprint:  MOV R5, -(SP)
    0o010546 ∷
    -- 000460           MOV #printer, R5
    0o012705 ∷ 0o002034 ∷
    -- 000464           BR interrupt
    0o000403 ∷
    -- 000466  vclock:  MOV R5, -(SP)
    0o010546 ∷
    -- 000470           MOV #clock, R5
    0o012705 ∷ 0o002040 ∷
    -- 000474  interrupt: MOV R4, -(SP)
    0o010446 ∷
    -- 000476           MOV R3, -(SP)
    0o010346 ∷
    -- 000500           MOV R2, -(SP)
    0o010246 ∷
    -- 000502           MOV R1, -(SP)
    0o010146 ∷
    -- 000504           MOV R0, -(SP)
    0o010046 ∷
    -- 000506           MOV (R5), R2                who stands at doio for this vector
    0o011502 ∷
    -- 000510           BEQ back                    nobody: what was interrupted goes on as it was
    0o001470 ∷
    -- 000512           CLR (R5)
    0o005015 ∷
    -- 000514           MOV @#cur, R3
    0o013703 ∷ 0o002000 ∷
    -- 000520           BEQ above                   nothing acted: the frame on the kernel's stack is left
    0o001402 ∷
    -- 000522           MOV SP, dsp(R3)
    0o010663 ∷ 0o000004 ∷
    -- 000526  above:   MOV R3, below(R2)           R2 joins the nest above R3
    0o010362 ∷ 0o000010 ∷
    -- 000532           MOV R2, R3
    0o010203 ∷
    -- 000534           BR resume
    0o000447 ∷
    -- 000536  choose:  MOV #stack, SP              nothing acts
    0o012706 ∷ 0o002400 ∷
    -- 000542           CLR @#cur
    0o005037 ∷ 0o002000 ∷
    -- 000546           CLR @#PS                    the window: what was masked is granted before any choice
    0o005037 ∷ 0o177776 ∷
    -- 000552           MOV @#ready, R3             a grant comes back here only where it changed nothing
    0o013703 ∷ 0o002004 ∷
    -- 000556           BEQ idle
    0o001412 ∷
    -- 000560  chosen:  MOV #340, @#PS              Choose
    0o012737 ∷ 0o000340 ∷ 0o177776 ∷
    -- 000566           MOV (R3), @#ready
    0o011337 ∷ 0o002004 ∷
    -- 000572           BNE resume
    0o001030 ∷
    -- 000574           MOV #ready, @#last          the list is empty now
    0o012737 ∷ 0o002004 ∷ 0o002006 ∷
    -- 000602           BR resume
    0o000424 ∷
    -- 000604  idle:    WAIT
    0o000001 ∷
    -- 000606           BR choose                   behind a grant that nobody took
    0o000753 ∷
    -- 000610  send:    MOV (R0), R2                the chosen waiter: least rank, then longest
    0o011002 ∷
    -- 000612           BEQ back
    0o001427 ∷
    -- 000614           MOV (R2), (R0)              it leaves the chain
    0o011210 ∷
    -- 000616           TST slot(R2)
    0o005762 ∷ 0o000012 ∷
    -- 000622           BNE above                   a device process acts above the sender
    0o001341 ∷
    -- 000624           TST slot(R3)
    0o005763 ∷ 0o000012 ∷
    -- 000630           BNE enqueue                 a device sender goes on, the waiter becomes ready
    0o001003 ∷
    -- 000632           MOV R3, R4                  the receiver acts, the sender becomes ready
    0o010304 ∷
    -- 000634           MOV R2, R3
    0o010203 ∷
    -- 000636           MOV R4, R2
    0o010402 ∷
    -- 000640  enqueue: CLR (R2)                    R2 becomes ready, as the last
    0o005012 ∷
    -- 000642           MOV @#last, R4
    0o013704 ∷ 0o002006 ∷
    -- 000646           MOV R2, (R4)
    0o010214 ∷
    -- 000650           MOV R2, @#last
    0o010237 ∷ 0o002006 ∷
    -- 000654  resume:  MOV R3, @#cur               R3 acts
    0o010337 ∷ 0o002000 ∷
    -- 000660           MOV dbound(R3), @#bound
    0o016337 ∷ 0o000006 ∷ 0o002002 ∷
    -- 000666           MOV dsp(R3), SP
    0o016306 ∷ 0o000004 ∷
    -- 000672  back:    MOV (SP)+, R0
    0o012600 ∷
    -- 000674           MOV (SP)+, R1
    0o012601 ∷
    -- 000676           MOV (SP)+, R2
    0o012602 ∷
    -- 000700           MOV (SP)+, R3
    0o012603 ∷
    -- 000702           MOV (SP)+, R4
    0o012604 ∷
    -- 000704           MOV (SP)+, R5
    0o012605 ∷
    -- 000706           RTI
    0o000002 ∷
    -- 000710  wait:    MOV R1, rank(R3)
    0o010163 ∷ 0o000002 ∷
    -- 000714           MOV R0, R4
    0o010004 ∷
    -- 000716  1walk:   MOV R4, R2                  R2: the signal or the waiter behind which R3 may stand
    0o010402 ∷
    -- 000720           MOV (R2), R4
    0o011204 ∷
    -- 000722           BEQ 1here
    0o001403 ∷
    -- 000724           CMP rank(R4), R1
    0o026401 ∷ 0o000002 ∷
    -- 000730           BLE 1walk
    0o003772 ∷
    -- 000732  1here:   MOV R4, (R3)
    0o010413 ∷
    -- 000734           MOV R3, (R2)
    0o010312 ∷
    -- 000736  leave:   MOV below(R3), R3           R3 leaves the nest or the foot
    0o016303 ∷ 0o000010 ∷
    -- 000742           BEQ choose
    0o001675 ∷
    -- 000744           BR resume
    0o000743 ∷
    -- 000746  doio:    MOV R3, @slot(R3)
    0o010373 ∷ 0o000012 ∷
    -- 000752           BR leave
    0o000771 ∷
    -- 000754  end:     DEC @#live
    0o005337 ∷ 0o000050 ∷
    -- 000760           MOV @#free, (R3)
    0o013713 ∷ 0o002010 ∷
    -- 000764           MOV R3, @#free
    0o010337 ∷ 0o002010 ∷
    -- 000770           BR leave
    0o000762 ∷
    -- 000772  start:   MOV rslot(R0), R1
    0o016001 ∷ 0o000004 ∷
    -- 000776           BEQ 2room                   a regular process
    0o001405 ∷
    -- 001000           TST 2(R1)
    0o005761 ∷ 0o000002 ∷
    -- 001004           BNE 2twice
    0o001046 ∷
    -- 001006           MOV R1, 2(R1)               started
    0o010161 ∷ 0o000002 ∷
    -- 001012  2room:   MOV @#free, R2
    0o013702 ∷ 0o002010 ∷
    -- 001016           BEQ 2full
    0o001442 ∷
    -- 001020           MOV (R2), @#free
    0o011237 ∷ 0o002010 ∷
    -- 001024           INC @#live
    0o005237 ∷ 0o000050 ∷
    -- 001030           MOV R1, slot(R2)
    0o010162 ∷ 0o000012 ∷
    -- 001034           MOV top(R2), R4             the new frame grows down from the workspace's top
    0o016204 ∷ 0o000014 ∷
    -- 001040           MOV params(R0), R5
    0o016005 ∷ 0o000002 ∷
    -- 001044           BEQ 2copied
    0o001407 ∷
    -- 001046           MOV SP, R1
    0o010601 ∷
    -- 001050           ADD #20, R1                 the last argument
    0o062701 ∷ 0o000020 ∷
    -- 001054           ADD R5, R1
    0o060501 ∷
    -- 001056           ADD R5, R1                  behind the first
    0o060501 ∷
    -- 001060  2copy:   MOV -(R1), -(R4)
    0o014144 ∷
    -- 001062           SOB R5, 2copy
    0o077502 ∷
    -- 001064  2copied: SUB #4, R4                  two words in place of the places of return
    0o162704 ∷ 0o000004 ∷
    -- 001070           MOV priority(R0), -(R4)
    0o016044 ∷ 0o000006 ∷
    -- 001074           MOV (R0), -(R4)
    0o011044 ∷
    -- 001076           SUB #14, R4                 six registers that say nothing
    0o162704 ∷ 0o000014 ∷
    -- 001102           MOV R4, dsp(R2)
    0o010462 ∷ 0o000004 ∷
    -- 001106           TST slot(R2)
    0o005762 ∷ 0o000012 ∷
    -- 001112           BNE above                   a device process acts at once
    0o001205 ∷
    -- 001114           CLR below(R2)
    0o005062 ∷ 0o000010 ∷
    -- 001120           BR enqueue
    0o000647 ∷
    -- 001122  2twice:  TRAP 7
    0o104407 ∷
    -- 001124  2full:   TRAP 11
    0o104411 ∷
    -- 001126  trap:    MOV (SP), R4
    0o011604 ∷
    -- 001130           MOV 177776(R4), @#trapped
    0o016437 ∷ 0o177776 ∷ 0o000046 ∷
    -- 001136           BIC #177400, @#trapped
    0o042737 ∷ 0o177400 ∷ 0o000046 ∷
    -- 001144           HALT
    0o000000 ∷
    []
