mod Got
